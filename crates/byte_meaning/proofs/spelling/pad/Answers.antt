use Rattle.std.proofs.Common.{◌-◌, ◌%◌, ◌∙◌}
use Rattle.byte_meaning.proofs.Packs.{next_zero}
use Rattle.byte_meaning.proofs.spelling.pad.Goals as goal

pub loop-i-preserved : goal.loop-i-preserved
loop-i-preserved c = record {
  packed = c.in_ok-push_bit.ensures.packed;
  rest = next_zero ((8 - c.args.packed.now.count) % 8) c.loop-i._i c.loop-i.packed c.push_bit.new.packed c.loop-i-test.true c.in_ok-push_bit.ensures.packs ∙ c.loop-i.invariant.rest;
}
