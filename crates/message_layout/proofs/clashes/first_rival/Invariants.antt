use Rattle.std.proofs.Common.{◌≡◌, ◌<◌, ℕ, false, get_or}
use Rattle.message_layout.specs.declared.arrivals.Arrival.{Arrival}
use Rattle.message_layout.specs.inner.Rivals.{is_rival}
use Rattle.message_layout.proofs.clashes.first_rival.Given as goal

abbrev pub invariant-loop-k : goal.invariant-loop-k
invariant-loop-k l = (j : ℕ) (d : Arrival) → l.at < j → j < l.k → is_rival l.row (get_or l.arrivals j d).message ≡ false
