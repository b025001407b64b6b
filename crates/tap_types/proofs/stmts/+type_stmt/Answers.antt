use Rattle.std.proofs.Common.{sym, subst, List, Option, map}
use Rattle.tap_base.specs.declared.ast.AstStmt.TheVariants as stmt
use Rattle.tap_base.specs.declared.refusal.Refusal.{Refusal}
use Rattle.tap_base.specs.declared.tree.Stmt.{Stmt}
use Rattle.tap_base.proofs.LoopFacts.{joined_on, some_on}
use Rattle.tap_names.proofs.Loops.{joined_fault, passed}
use Rattle.tap_types.proofs.StmtFolds.{send_judged, send_named}
use Rattle.tap_base.specs.declared.ast.AstExpr.{AstExpr}
use Rattle.tap_base.specs.declared.ast.AstStmt.{AstStmt}
use Rattle.tap_names.specs.Refusals.{Judges}
use Rattle.tap_base.specs.ListWords.{joined}
use Rattle.tap_types.specs.StmtOffences.{body_offences, branch_offences, send_offences, stmt_offences}
use Rattle.tap_types.specs.Systems.{body_of, branch_of, send_of, stmt_of}
use Rattle.tap_base.specs.ListWords.{some_of}
use Rattle.tap_types.specs.inner.Typing.{scope_of}
use Rattle.tap_types.proofs.stmts.+type_stmt.Goals as goal

pub type_stmt-returns-in-Send : goal.type_stmt-returns-in-Send
type_stmt-returns-in-Send t c =
    let s = scope_of c.args.names.now in
    let m = c.in-Send.message in
    let q = c.in-Send.to in
    let vs = c.in-Send.values in
    let V : List AstExpr → Type 0 = λ z. Judges (send_offences s m z q) (send_of s m z q) c.type_send.result in
    let O : List Refusal → Type 0 = λ z. Judges z (send_of s m vs q) c.type_send.result in
    let N : Option Stmt → Type 0 = λ z. Judges (stmt_offences s (stmt.Send m vs q)) z c.type_send.result in
    let S : AstStmt → Type 0 = λ z. Judges (stmt_offences s z) (stmt_of s z) c.type_send.result in
    subst S (sym c.in-Send.is) (subst N (sym (send_named s m q vs)) (subst O (sym (send_judged s m q vs)) (subst V c.as_slice-in-Send.ensures c.type_send.ensures)))

pub type_body-returns-in_err-type_stmt : goal.type_body-returns-in_err-type_stmt
type_body-returns-in_err-type_stmt t c =
    let s = scope_of c.args.names.now in
    passed (body_offences s c.args.body.now) (body_of s c.args.body.now) _ _ c.from_residual.ensures.1 (joined_fault (stmt_offences s) c.args.body.now c.body.stmt-index c.stmt-item.result c.body-test.true c.stmt-item.is _ c.in_err-type_stmt.ensures c.body.invariant.clear)

pub type_body-body-preserved : goal.type_body-body-preserved
type_body-body-preserved t c =
    let s = scope_of c.args.names.now in
    record {
      clear = joined_on (stmt_offences s) c.args.body.now c.body.stmt-index c.stmt-item.result c.body-test.true c.stmt-item.is c.in_ok-type_stmt.ensures.0 c.body.invariant.clear;
      named = some_on (stmt_of s) c.args.body.now c.body.stmt-index c.stmt-item.result c.body-test.true c.stmt-item.is c.in_ok-type_stmt.field-0 c.body.found _ c.in_ok-push.ensures.ok c.in_ok-type_stmt.ensures.1 c.body.invariant.named;
    }

pub type_branches-returns-in_err-type_branch : goal.type_branches-returns-in_err-type_branch
type_branches-returns-in_err-type_branch t c =
    let s = scope_of c.args.names.now in
    let bs = c.args.branches.now in
    passed (joined (map (branch_offences s) bs)) (some_of (map (branch_of s) bs)) _ _ c.from_residual.ensures.1 (joined_fault (branch_offences s) bs c.branches.branch-index c.branch-item.result c.branches-test.true c.branch-item.is _ c.in_err-type_branch.ensures c.branches.invariant.clear)

pub type_branches-branches-preserved : goal.type_branches-branches-preserved
type_branches-branches-preserved t c =
    let s = scope_of c.args.names.now in
    let bs = c.args.branches.now in
    record {
      clear = joined_on (branch_offences s) bs c.branches.branch-index c.branch-item.result c.branches-test.true c.branch-item.is c.in_ok-type_branch.ensures.0 c.branches.invariant.clear;
      named = some_on (branch_of s) bs c.branches.branch-index c.branch-item.result c.branches-test.true c.branch-item.is c.in_ok-type_branch.field-0 c.branches.found _ c.in_ok-push.ensures.ok c.in_ok-type_branch.ensures.1 c.branches.invariant.named;
    }
