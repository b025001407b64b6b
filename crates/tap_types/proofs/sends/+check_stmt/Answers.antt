use Rattle.std.proofs.Common.{sym, subst, List}
use Rattle.tap_base.specs.declared.ast.AstStmt.{AstStmt}
use Rattle.tap_base.specs.declared.refusal.Refusal.{Refusal}
use Rattle.tap_base.specs.Offences.{Clears}
use Rattle.tap_types.specs.SendOffences.{unreceived_in}
use Rattle.tap_types.specs.inner.Receiving.{is_taken}
use Rattle.tap_types.proofs.StmtFolds.{send_unreceived}
use Rattle.tap_types.proofs.sends.+check_stmt.Goals as goal

pub check_stmt-returns-in-Send : goal.check_stmt-returns-in-Send
check_stmt-returns-in-Send t c =
    let f = is_taken c.args.receivers.now c.args.sender.now in
    let S : AstStmt → Type 0 = λ z. Clears (unreceived_in f z) c.check_send.result in
    let O : List Refusal → Type 0 = λ z. Clears z c.check_send.result in
    subst S (sym c.in-Send.is) (subst O (sym (send_unreceived f c.in-Send.message c.in-Send.to c.in-Send.values)) c.check_send.ensures)
