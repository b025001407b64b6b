use Rattle.std.proofs.Common.{◌≡◌, ◌<◌, ◌≤◌, ℕ, List, get_or, length, Some}
use Rattle.std.specs.Prelude.{slice_get}
use Rattle.tap_base.specs.declared.wire.WireField.{WireField}
use Rattle.message_layout.specs.declared.arrivals.Arrival.{Arrival}
use Rattle.wire_tests.proofs.calls.has_room_for.Given as goal

abbrev pub invariant-loop-i : goal.invariant-loop-i
invariant-loop-i l =
    (k : ℕ) (d : Arrival) (fields : List WireField) → k < l.i → slice_get l.layout.messages (get_or l.arriving k d).message ≡ Some fields → length fields ≤ l.count
