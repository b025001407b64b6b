use Rattle.std.proofs.Common.{◌≡◌, ◌<◌, ◌≤◌, ℕ, List, slice_get, Some}
use Rattle.tap_base.specs.declared.wire.WireField.{WireField}
use Rattle.byte_meaning.specs.Apart.{bit_length}
use Rattle.message_layout.specs.Wires.{most_bits}
use Rattle.message_layout.proofs.lengths.first_long.Given as goal

abbrev pub invariant-messages : goal.invariant-messages
invariant-messages l = (k : ℕ) (earlier : List WireField) → k < l.m → slice_get l.messages k ≡ Some earlier → bit_length earlier ≤ most_bits
