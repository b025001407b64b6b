use Rattle.std.proofs.Common.{◌≡◌, ◌+◌, ◌≤◌, drop, map, sum}
use Rattle.width_check.specs.Cost as spec
use Rattle.width_check.specs.inner.Capped.{capped}
use Rattle.width_check.proofs.costs.+costs.Given as goal

abbrev pub invariant-branches_cost-loop-branch : goal.invariant-branches_cost-loop-branch
invariant-branches_cost-loop-branch l = record { few : l.total ≤ 1000001; same : capped (l.total + sum (map spec.branch_cost (drop l.branch-index l.branches))) ≡ capped (sum (map spec.branch_cost l.branches)) }

abbrev pub invariant-body_cost-loop-stmt : goal.invariant-body_cost-loop-stmt
invariant-body_cost-loop-stmt l = record { few : l.total ≤ 1000001; same : capped (l.total + sum (map spec.stmt_cost (drop l.stmt-index l.stmts))) ≡ capped (sum (map spec.stmt_cost l.stmts)) }
