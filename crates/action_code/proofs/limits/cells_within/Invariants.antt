use Rattle.std.proofs.Common.{◌≡◌, ◌≤◌, map, take}
use Rattle.std.specs.Prelude.{sum}
use Rattle.register_code.specs.declared.code.CodeVariable.{CodeVariable}
use Rattle.action_code.proofs.limits.cells_within.Given as goal

abbrev pub invariant-loop-variable : goal.invariant-loop-variable
invariant-loop-variable l = (l.cells ≡ sum (map (λ (v : CodeVariable). v.cells) (take l.variable-index l.variables))) × (l.cells ≤ 4096)
