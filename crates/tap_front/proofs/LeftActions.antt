-- A fact of each token stays one of those that an action leaves.
use Rattle.std.proofs.Common.{List, ◌∷◌}
use Rattle.tap_base.specs.Lists.{Each}
use Rattle.tap_base.specs.declared.ast.AstAction.{AstAction}
use Rattle.tap_base.specs.declared.ast.AstBranch.{AstBranch}
use Rattle.tap_base.specs.declared.ast.AstExpr.{AstExpr}
use Rattle.tap_base.specs.declared.ast.AstGuard.{AstGuard}
use Rattle.tap_base.specs.declared.ast.AstStmt.{AstStmt}
use Rattle.tap_base.specs.declared.ast.AstTarget.{AstTarget}
use Rattle.tap_lexer.specs.Lexeme.{Lexeme}
use Rattle.tap_parser.specs.Statements.{IsTarget, whole, element, IsStmt, skip, assign, choose, send, start, stop, select, repeat, AreStmts, last, more, IsBranch, guarded, AreBranches, final, further, IsGuard, local, receive, timeout, IsAction}
use Rattle.tap_front.proofs.LeftLists.{separated_left, some_left}

module _ (P : Lexeme → Type 0) (E : AstExpr → List Lexeme → List Lexeme → Type 0) (f : (e : AstExpr) (ts us : List Lexeme) → E e ts us → Each P ts → Each P us) where
  target_left : (a : AstTarget) (ts us : List Lexeme) → IsTarget E a ts us → Each P ts → Each P us
  target_left a ts us (whole e) h = h.1
  target_left a ts us (element {e = d} {z} {ts = ks} e i r c) h = (f d ks (z ∷ us) r h.1.1).1

  mutual
    stmt_left : {a : AstStmt} {ts us : List Lexeme} → IsStmt E a ts us → Each P ts → Each P us
    stmt_left (skip e) h = h.1
    stmt_left (assign t e v) h = separated_left P E f v (separated_left P (IsTarget E) target_left t h).1
    stmt_left (choose {target = t} {ts} {us} e i) h = target_left t ts us i h.1
    stmt_left (send e g c v i j k) h = (some_left P E f v h.1.1.1).1.1.1
    stmt_left (start {delay} {ts} {us} e g c d) h = f delay ts us d h.1.1.1
    stmt_left (stop e g) h = h.1.1
    stmt_left (select e b g) h = (branches_left b h.1).1
    stmt_left (repeat e g c b i) h = (branches_left b h.1.1.1).1

    stmts_left : {l : List AstStmt} {ts us : List Lexeme} → AreStmts E l ts us → Each P ts → Each P us
    stmts_left (last i) h = stmt_left i h
    stmts_left (more i e r) h = stmts_left r (stmt_left i h).1

    branch_left : {b : AstBranch} {ts us : List Lexeme} → IsBranch E b ts us → Each P ts → Each P us
    branch_left (guarded {e = g} {x} {ts} {us} r e b) h = stmts_left b (f g ts (x ∷ us) r h).1

    branches_left : {l : List AstBranch} {ts us : List Lexeme} → AreBranches E l ts us → Each P ts → Each P us
    branches_left (final i) h = branch_left i h
    branches_left (further i e r) h = branches_left r (branch_left i h).1

  guard_left : {g : AstGuard} {ts us : List Lexeme} → IsGuard E g ts us → Each P ts → Each P us
  guard_left (local {e} {ts} {us} r) h = f e ts us r h
  guard_left (receive e g c i) h = h.1.1.1.1
  guard_left (timeout e g) h = h.1.1

  pub action_left : (a : AstAction) (ts us : List Lexeme) → IsAction E a ts us → Each P ts → Each P us
  action_left a ts us (guarded g e b) h = stmts_left b (guard_left g h).1
