use Rattle.std.proofs.Common.{◌≡◌, ◌+◌, ◌≤◌, drop, map, sum}
use Rattle.tap_base.specs.Sends as spec
use Rattle.width_check.specs.inner.Capped.{capped}
use Rattle.width_check.proofs.sendings.+sendings.Given as goal

abbrev pub invariant-branches_sends-loop-branch : goal.invariant-branches_sends-loop-branch
invariant-branches_sends-loop-branch l = record { few : l.total ≤ 1000001; same : capped (l.total + sum (map spec.branch_sends (drop l.branch-index l.branches))) ≡ capped (sum (map spec.branch_sends l.branches)) }

abbrev pub invariant-body_sends-loop-stmt : goal.invariant-body_sends-loop-stmt
invariant-body_sends-loop-stmt l = record { few : l.total ≤ 1000001; same : capped (l.total + sum (map spec.stmt_sends (drop l.stmt-index l.stmts))) ≡ capped (sum (map spec.stmt_sends l.stmts)) }
