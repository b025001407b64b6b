use Rattle.std.proofs.Common.{rules}
use Rattle.tap_base.specs.declared.token.Sign.TheVariants as sign
use Rattle.tap_printer.specs.Canonical.{branch_tokens, stmt_tokens}
use Rattle.tap_printer.proofs.Appends.{on_ok}
use Rattle.tap_printer.proofs.Bodies.{branch_written, assign_written, send_written, select_written, loop_written}
use Rattle.tap_printer.proofs.Loops.{one_further}
use Rattle.tap_printer.proofs.stmts.+stmts.Goals as goal

pub write_branches-loop-branch-preserved : goal.write_branches-loop-branch-preserved
write_branches-loop-branch-preserved t c =
    one_further branch_tokens sign.Box _ c.loop-branch.branch-index c.branch-item.result _ c.loop-branch.pen c.mark.new.self c.write_branch-in-loop-branch.new.pen c.loop-branch-test.true c.branch-item.is c.loop-branch.invariant (c.in_ok-mark.ensures) (c.in_ok-write_branch-2.ensures)

pub write_stmts-loop-stmt-preserved : goal.write_stmts-loop-stmt-preserved
write_stmts-loop-stmt-preserved t c =
    one_further stmt_tokens sign.Semicolon _ c.loop-stmt.stmt-index c.stmt-item.result _ c.loop-stmt.pen c.mark.new.self c.write_stmt-in-loop-stmt.new.pen c.loop-stmt-test.true c.stmt-item.is c.loop-stmt.invariant (c.in_ok-mark.ensures) (c.in_ok-write_stmt-2.ensures)

pub write_branch-returns : goal.write_branch-returns
write_branch-returns t c = on_ok c.write_stmts.result c.write_stmts.ensures
    (λ e. branch_written c.args.branch.now c.args.pen.now c.write.new.pen c.mark.new.self _ (search rules) (search rules) (search rules))

pub write_stmt-returns-in_ok-mark-in-Assign : goal.write_stmt-returns-in_ok-mark-in-Assign
write_stmt-returns-in_ok-mark-in-Assign t c = on_ok c.write_separated-in-Assign.result c.write_separated-in-Assign.ensures
    (λ e. assign_written c.args.stmt.now c.in-Assign.targets c.in-Assign.values c.args.pen.now c.write_separated.new.pen c.mark-in-Assign.new.self _ (search rules) (search rules) (search rules) (search rules))

pub write_stmt-returns-in_ok-mark-in-Send-4 : goal.write_stmt-returns-in_ok-mark-in-Send-4
write_stmt-returns-in_ok-mark-in-Send-4 t c = on_ok c.write-in-Send-2.result c.write-in-Send-2.ensures
    (λ e. send_written c.args.stmt.now c.in-Send.message c.in-Send.values c.in-Send.to c.args.pen.now c.write_separated-in-Send.new.pen _ (search rules) (search rules) (search rules))

pub write_stmt-returns-in_ok-write_branches-in-If :
    goal.write_stmt-returns-in_ok-write_branches-in-If
write_stmt-returns-in_ok-write_branches-in-If t c = on_ok c.mark-in-If-2.result c.mark-in-If-2.ensures
    (λ e. select_written c.args.stmt.now c.in-If.branches c.args.pen.now c.mark-in-If.new.self c.write_branches.new.pen _ (search rules) (search rules) (search rules) (search rules))

pub write_stmt-returns-in_ok-write_branches-in-Loop :
    goal.write_stmt-returns-in_ok-write_branches-in-Loop
write_stmt-returns-in_ok-write_branches-in-Loop t c = on_ok c.mark-in-Loop-3.result c.mark-in-Loop-3.ensures
    (λ e. loop_written c.args.stmt.now c.in-Loop.count c.in-Loop.place c.in-Loop.branches c.args.pen.now c.mark-in-Loop-2.new.self c.write_branches-in-Loop.new.pen _ (search rules) (search rules) (search rules) (search rules))
