use Rattle.std.proofs.Common.{◌≡◌, ◌++◌, replicate}
use Rattle.action_machine.proofs.making.push_cells.Given as goal

abbrev pub invariant-loop-at : goal.invariant-loop-at
invariant-loop-at l = l.all ≡ l.fn.all ++ replicate l.at l.variable.initial
