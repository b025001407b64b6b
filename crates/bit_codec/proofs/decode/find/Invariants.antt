use Rattle.std.proofs.Common.{◌≡◌, ◌<◌, ℕ, List, get_or, Some, None}
use Rattle.std.specs.Prelude.{slice_get}
use Rattle.tap_base.specs.declared.wire.WireField.{WireField}
use Rattle.byte_meaning.specs.Reading.{values_spelled}
use Rattle.message_layout.specs.declared.arrivals.Arrival.{Arrival}
use Rattle.bit_codec.proofs.decode.find.Given as goal

abbrev pub invariant-loop-arrival : goal.invariant-loop-arrival
invariant-loop-arrival l =
    (k : ℕ) (d : Arrival) (fields : List WireField) → k < l.arrival-index → slice_get l.layout.messages (get_or l.arriving k d).message ≡ Some fields → values_spelled fields l.bytes ≡ None
