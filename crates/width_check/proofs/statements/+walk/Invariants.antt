use Rattle.std.proofs.Common.{◌≡◌, drop, map}
use Rattle.tap_base.specs.ListWords.{joined}
use Rattle.width_check.specs.StmtOffences.{branch_offences, stmt_offences}
use Rattle.width_check.specs.inner.Reading.{scope_in}
use Rattle.width_check.proofs.statements.+walk.Given as goal

abbrev pub invariant-judge_branches-loop-branch : goal.invariant-judge_branches-loop-branch
invariant-judge_branches-loop-branch l = joined (map (branch_offences l.messages (scope_in l.reads)) (drop l.branch-index l.branches)) ≡ joined (map (branch_offences l.messages (scope_in l.reads)) l.branches)

abbrev pub invariant-judge_body-loop-stmt : goal.invariant-judge_body-loop-stmt
invariant-judge_body-loop-stmt l = joined (map (stmt_offences l.messages (scope_in l.reads)) (drop l.stmt-index l.stmts)) ≡ joined (map (stmt_offences l.messages (scope_in l.reads)) l.stmts)
