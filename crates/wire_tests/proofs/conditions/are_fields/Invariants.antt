use Rattle.std.proofs.Common.{◌<◌, ℕ, get_or}
use Rattle.tap_base.specs.declared.wire.WireField.{WireField}
use Rattle.message_layout.specs.Wires.{IsField}
use Rattle.wire_tests.proofs.conditions.are_fields.Given as goal

abbrev pub invariant-loop-i : goal.invariant-loop-i
invariant-loop-i l = (k : ℕ) (d : WireField) → k < l.i → IsField (get_or l.fields k d)
