use Rattle.std.proofs.Common.{◌<◌, ℕ, get_or}
use Rattle.tap_base.specs.declared.wire.Receive.{Receive}
use Rattle.wire_tests.proofs.conditions.are_received.Given as goal

abbrev pub invariant-loop-i : goal.invariant-loop-i
invariant-loop-i l = (k : ℕ) (d : Receive) → k < l.i → (get_or l.receives k d).message < l.count
