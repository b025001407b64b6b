use Rattle.std.proofs.Common.{◌<◌, length, arith, map}
use Rattle.tap_base.specs.ListWords.{joined}
use Rattle.width_check.specs.StmtOffences.{branch_offences, stmt_offences}
use Rattle.width_check.specs.inner.Reading.{scope_in}
use Rattle.width_check.proofs.Firsts.{in_joined, refuses}
use Rattle.width_check.proofs.statements.+walk.Goals as goal

pub judge_body-returns-in_err-judge_stmt : goal.judge_body-returns-in_err-judge_stmt
judge_body-returns-in_err-judge_stmt t c =
    let l : c.loop-stmt.stmt-index < length c.args.stmts.now = omega arith in
    let f = stmt_offences c.args.messages.now (scope_in c.args.reads.now) in
    refuses (joined (map f c.args.stmts.now)) c.from_residual.result c.in_err-judge_stmt.field-0.0 c.from_residual.ensures.1
    (in_joined f c.args.stmts.now c.loop-stmt.stmt-index c.stmt-item.result c.in_err-judge_stmt.field-0.0 l c.stmt-item.is c.loop-stmt.invariant c.in_err-judge_stmt.ensures)

pub judge_branches-returns-in_err-judge_branch : goal.judge_branches-returns-in_err-judge_branch
judge_branches-returns-in_err-judge_branch t c =
    let l : c.loop-branch.branch-index < length c.args.branches.now = omega arith in
    let f = branch_offences c.args.messages.now (scope_in c.args.reads.now) in
    refuses (joined (map f c.args.branches.now)) c.from_residual.result c.in_err-judge_branch.field-0.0 c.from_residual.ensures.1
    (in_joined f c.args.branches.now c.loop-branch.branch-index c.branch-item.result c.in_err-judge_branch.field-0.0 l c.branch-item.is c.loop-branch.invariant c.in_err-judge_branch.ensures)
