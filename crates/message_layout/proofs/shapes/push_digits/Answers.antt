use Rattle.std.proofs.Common.{◌++◌, Some, map}
use Rattle.byte_meaning.specs.Spelling.{digits}
use Rattle.message_layout.proofs.Marks.{next_digit}
use Rattle.message_layout.proofs.shapes.push_digits.Goals as goal

pub loop-at-preserved : goal.loop-at-preserved
loop-at-preserved c =
    next_digit c.args.width c.loop-at.at c.args.number c.loop-at.bits c.push.new.self (c.args.bits.now ++ map Some (digits c.args.width c.args.number))
    c.loop-at-test.true c.in_ok-push.ensures.ok c.loop-at.invariant
