use Rattle.std.proofs.Common.{arith}
use Rattle.message_layout.specs.Wires.{IsField}
use Rattle.wire_tests.proofs.Places.{each_by_place}
use Rattle.wire_tests.proofs.conditions.are_fields.Goals as goal

pub returns : goal.returns
returns c = each_by_place IsField c.args.fields.now (λ k d less. c.loop-i.invariant k d (omega arith))
