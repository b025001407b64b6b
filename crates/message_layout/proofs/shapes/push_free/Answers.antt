use Rattle.std.proofs.Common.{◌++◌, None, replicate}
use Rattle.message_layout.proofs.Marks.{next_free}
use Rattle.message_layout.proofs.shapes.push_free.Goals as goal

pub loop-i-preserved : goal.loop-i-preserved
loop-i-preserved c =
    next_free c.args.width c.loop-i._i c.loop-i.bits c.push.new.self (c.args.bits.now ++ replicate c.args.width None) c.loop-i-test.true c.in_ok-push.ensures.ok c.loop-i.invariant
