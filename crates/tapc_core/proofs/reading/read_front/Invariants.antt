use Rattle.std.proofs.Common.{◌≡◌, ◌≤◌, ℕ, List, length, ◌-◌}
use Rattle.tapc_core.proofs.FrontRead.{Parts}
use Rattle.tapc_core.proofs.reading.read_front.Given as goal

abbrev pub invariant-loop-buf : goal.invariant-loop-buf
invariant-loop-buf g l = record {
  parts : Parts (g.S.Store.contents l.fn.store l.name) l.bytes (g.S.Store.left l.store);
  within : length l.bytes ≤ l.most;
  stays : (n : List ℕ) → g.S.Store.contents l.store n ≡ g.S.Store.contents l.fn.store n;
  kept : g.S.Store.faults l.store ≡ g.S.Store.faults l.fn.store;
}

abbrev pub decreases-loop-buf : goal.decreases-loop-buf
decreases-loop-buf g l = l.most - length l.bytes
