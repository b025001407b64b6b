use Rattle.std.proofs.Common.{◌≡◌, ◌<◌, ℕ, List, Bool, get_or, slice_get, Some}
use Rattle.message_layout.specs.declared.arrivals.Arrival.{Arrival}
use Rattle.message_layout.specs.inner.Rivals.{NoRival}
use Rattle.message_layout.proofs.clashes.first_clash.Given as goal

abbrev pub invariant-loop-at : goal.invariant-loop-at
invariant-loop-at l = (j : ℕ) (d : Arrival) (row : List Bool) → j < l.at → slice_get l.rivals (get_or l.arrivals j d).message ≡ Some row → NoRival l.arrivals j row
