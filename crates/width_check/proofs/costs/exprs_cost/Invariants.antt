use Rattle.std.proofs.Common.{◌≡◌, ◌+◌, ◌≤◌, drop, map, sum}
use Rattle.width_check.specs.Cost as spec
use Rattle.width_check.specs.inner.Capped.{capped}
use Rattle.width_check.proofs.costs.exprs_cost.Given as goal

abbrev pub invariant-loop-e : goal.invariant-loop-e
invariant-loop-e l = record { few : l.total ≤ 1000001; same : capped (l.total + sum (map spec.expr_cost (drop l.e-index l.es))) ≡ capped (sum (map spec.expr_cost l.es)) }
