use Rattle.std.proofs.Common.{◌∙◌}
use Rattle.byte_meaning.proofs.Packs.{next_digit}
use Rattle.byte_meaning.proofs.spelling.push_value.Goals as goal

pub loop-at-preserved : goal.loop-at-preserved
loop-at-preserved c = record {
  packed = c.in_ok-push_bit.ensures.packed;
  rest = next_digit c.args.width c.loop-at.at c.args.value c.loop-at.packed c.push_bit.new.packed c.loop-at-test.true c.in_ok-push_bit.ensures.packs ∙ c.loop-at.invariant.rest;
}
