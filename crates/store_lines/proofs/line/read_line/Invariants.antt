use Rattle.std.proofs.Common.{◌≡◌, ◌-◌, ℕ, List, length}
use Rattle.store_lines.specs.Lines.{coming, most_bytes}
use Rattle.store_lines.proofs.ReadOn.{IsReading}
use Rattle.store_lines.proofs.line.read_line.Given as goal

abbrev pub invariant-loop-ended : goal.invariant-loop-ended
invariant-loop-ended g l = record {
  reading : IsReading (coming l.fn.held (g.S.Store.left l.fn.store)) l.held (g.S.Store.left l.store) l.line.items;
  stays : (n : List ℕ) → g.S.Store.contents l.store n ≡ g.S.Store.contents l.fn.store n;
  kept : g.S.Store.faults l.store ≡ g.S.Store.faults l.fn.store;
}

abbrev pub decreases-loop-ended : goal.decreases-loop-ended
decreases-loop-ended g l = most_bytes - length l.line.items
