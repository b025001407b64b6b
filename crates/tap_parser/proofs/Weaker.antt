-- Where less is asked of expressions, the same trees are spelled.
use Rattle.std.proofs.Common.{List, ◌∷◌}
use Rattle.tap_base.specs.declared.ast.Ast.{Ast}
use Rattle.tap_base.specs.declared.ast.AstAction.{AstAction}
use Rattle.tap_base.specs.declared.ast.AstBranch.{AstBranch}
use Rattle.tap_base.specs.declared.ast.AstExpr.{AstExpr}
use Rattle.tap_base.specs.declared.ast.AstGuard.{AstGuard}
use Rattle.tap_base.specs.declared.ast.AstProcess.{AstProcess}
use Rattle.tap_base.specs.declared.ast.AstStmt.{AstStmt}
use Rattle.tap_base.specs.declared.ast.AstTarget.{AstTarget}
use Rattle.tap_base.specs.declared.token.Sign.{Sign}
use Rattle.tap_lexer.specs.Lexeme.{Lexeme}
use Rattle.tap_lexer.specs.Rows.{Separated, last as last_of, more as more_of, SomeSeparated, none, some, Row}
use Rattle.tap_parser.specs.Statements.{IsTarget, whole, element, IsStmt, skip, assign, choose, send, start, stop, select, repeat, AreStmts, last, more, IsBranch, guarded, AreBranches, final, further, IsGuard, local, receive, timeout, IsAction}
use Rattle.tap_parser.specs.Systems.{IsProcess, declared, SpellsOver, system}

module _ {A : Type 0} (P Q : A → List Lexeme → List Lexeme → Type 0) (f : (a : A) (ts us : List Lexeme) → P a ts us → Q a ts us) where
  separated : {s : Sign} {l : List A} {ts us : List Lexeme} → Separated P s l ts us → Separated Q s l ts us
  separated (last_of {a} {ts} {us} i) = last_of (f a ts us i)
  separated (more_of {a} {x} {ts} {us} i e r) = more_of (f a ts (x ∷ us) i) e (separated r)

  some_separated : {s : Sign} {l : List A} {ts us : List Lexeme} → SomeSeparated P s l ts us → SomeSeparated Q s l ts us
  some_separated none = none
  some_separated (some r) = some (separated r)

  row : {l : List A} {ts us : List Lexeme} → Row P l ts us → Row Q l ts us
  row (last_of {a} {ts} {us} i) = last_of (f a ts us i)
  row (more_of {a} {ts} {us} i r) = more_of (f a ts us i) (row r)

module _ (E F : AstExpr → List Lexeme → List Lexeme → Type 0) (f : (e : AstExpr) (ts us : List Lexeme) → E e ts us → F e ts us) where
  target : (a : AstTarget) (ts us : List Lexeme) → IsTarget E a ts us → IsTarget F a ts us
  target a ts us (whole e) = whole e
  target a ts us (element {e = d} {z} {ts = ks} e i r k) = element e i (f d ks (z ∷ us) r) k

  mutual
    stmt : {a : AstStmt} {ts us : List Lexeme} → IsStmt E a ts us → IsStmt F a ts us
    stmt (skip e) = skip e
    stmt (assign t e v) = assign (separated (IsTarget E) (IsTarget F) target t) e (separated E F f v)
    stmt (choose {target = t} {ts} {us} e i) = choose e (target t ts us i)
    stmt (send e g h v i j k) = send e g h (some_separated E F f v) i j k
    stmt (start {delay} {ts} {us} e g h d) = start e g h (f delay ts us d)
    stmt (stop e g) = stop e g
    stmt (select e b g) = select e (branches b) g
    stmt (repeat e g h b i) = repeat e g h (branches b) i

    stmts : {l : List AstStmt} {ts us : List Lexeme} → AreStmts E l ts us → AreStmts F l ts us
    stmts (last i) = last (stmt i)
    stmts (more i e r) = more (stmt i) e (stmts r)

    branch : {b : AstBranch} {ts us : List Lexeme} → IsBranch E b ts us → IsBranch F b ts us
    branch (guarded {e = g} {x} {ts} {us} r e b) = guarded (f g ts (x ∷ us) r) e (stmts b)

    branches : {l : List AstBranch} {ts us : List Lexeme} → AreBranches E l ts us → AreBranches F l ts us
    branches (final i) = final (branch i)
    branches (further i e r) = further (branch i) e (branches r)

  guard : {g : AstGuard} {ts us : List Lexeme} → IsGuard E g ts us → IsGuard F g ts us
  guard (local {e} {ts} {us} r) = local (f e ts us r)
  guard (receive e g h i) = receive e g h i
  guard (timeout e g) = timeout e g

  action : (a : AstAction) (ts us : List Lexeme) → IsAction E a ts us → IsAction F a ts us
  action a ts us (guarded g e b) = guarded (guard g) e (stmts b)

  process : (p : AstProcess) (ts us : List Lexeme) → IsProcess E p ts us → IsProcess F p ts us
  process p ts us (declared e g c i v t h a k) = declared e g c i v t h (some_separated (IsAction E) (IsAction F) action a) k

  pub weaker : (ts : List Lexeme) (tree : Ast) → SpellsOver E ts tree → SpellsOver F ts tree
  weaker ts tree (system m p) = system m (row (IsProcess E) (IsProcess F) process p)
