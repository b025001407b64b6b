use Rattle.std.proofs.Common.{◌≡◌, ◌+◌, ◌≤◌, drop, map, sum}
use Rattle.width_check.specs.Cost as spec
use Rattle.width_check.specs.inner.Capped.{capped}
use Rattle.width_check.proofs.costs.targets_cost.Given as goal

abbrev pub invariant-loop-target : goal.invariant-loop-target
invariant-loop-target l = record { few : l.total ≤ 1000001; same : capped (l.total + sum (map (λ t. spec.index_cost t.index) (drop l.target-index l.targets))) ≡ capped (sum (map (λ t. spec.index_cost t.index) l.targets)) }
