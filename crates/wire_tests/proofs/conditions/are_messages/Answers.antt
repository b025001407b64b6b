use Rattle.std.proofs.Common.{arith}
use Rattle.tap_base.specs.Lists.{Each}
use Rattle.message_layout.specs.Wires.{IsField}
use Rattle.wire_tests.proofs.Places.{each_by_place}
use Rattle.wire_tests.proofs.conditions.are_messages.Goals as goal

pub returns : goal.returns
returns c = each_by_place (λ fields. Each IsField fields) c.args.messages.now (λ k d less. c.loop-i.invariant k d (omega arith))
