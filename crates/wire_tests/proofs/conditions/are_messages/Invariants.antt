use Rattle.std.proofs.Common.{◌<◌, ℕ, List, get_or}
use Rattle.tap_base.specs.declared.wire.WireField.{WireField}
use Rattle.tap_base.specs.Lists.{Each}
use Rattle.message_layout.specs.Wires.{IsField}
use Rattle.wire_tests.proofs.conditions.are_messages.Given as goal

abbrev pub invariant-loop-i : goal.invariant-loop-i
invariant-loop-i l = (k : ℕ) (d : List WireField) → k < l.i → Each IsField (get_or l.messages k d)
