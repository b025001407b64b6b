use Rattle.std.proofs.Common.{◌≡◌, ◌++◌, replicate}
use Rattle.width_check.proofs.reads.push_cells.Given as goal

abbrev pub invariant-loop-i : goal.invariant-loop-i
invariant-loop-i l = l.all ≡ l.fn.all ++ replicate l._i l.range
