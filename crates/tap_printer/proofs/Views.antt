-- Expressions and statements by what they are.
use Rattle.std.proofs.Common.{◌≡◌, refl, sym, ◌∙◌, ap, subst, ℕ, ℤ, Bool, List, rules}
use Rattle.tap_base.specs.declared.ast.AstBranch.{AstBranch}
use Rattle.tap_base.specs.declared.ast.AstExpr.{AstExpr}
use Rattle.tap_base.specs.declared.ast.AstKind.{AstKind, out-AstKind, roll-AstKind, the_lemmas}
use Rattle.tap_base.specs.declared.ast.AstKind.TheOpen.{AstKind-F}
use Rattle.tap_base.specs.declared.ast.AstKind.TheVariants as kind
use Rattle.tap_base.specs.declared.ast.AstStmt.{AstStmt, out-AstStmt, roll-AstStmt, the_lemmas as of_stmts}
use Rattle.tap_base.specs.declared.ast.AstStmt.TheOpen.{AstStmt-F}
use Rattle.tap_base.specs.declared.ast.AstStmt.TheVariants as stmt
use Rattle.tap_base.specs.declared.ast.AstTarget.{AstTarget}
use Rattle.tap_base.specs.declared.ast.Ident.{Ident}
use Rattle.tap_base.specs.declared.place.Place.{Place}
use Rattle.tap_base.specs.declared.tree.Op.{Op}

rolled : (k : AstKind) → roll-AstKind (out-AstKind k) ≡ k
rolled k = search (rules, the_lemmas)

pub data KindView : AstKind → Type 0 where
  a_number : (n : ℤ) → KindView (kind.Number n)
  a_truth : (b : Bool) → KindView (kind.Truth b)
  a_name : (t : List ℕ) → KindView (kind.Name t)
  an_element : (t : List ℕ) (i : AstExpr) → KindView (kind.Index t i)
  a_part : (m f : List ℕ) → KindView (kind.Part m f)
  a_denial : (e : AstExpr) → KindView (kind.Not e)
  a_negation : (e : AstExpr) → KindView (kind.Neg e)
  an_operation : (o : Op) (a b : AstExpr) → KindView (kind.Binary o a b)

viewed : (k l : AstKind) → out-AstKind l ≡ out-AstKind k → KindView l → KindView k
viewed k l e v = subst KindView (sym (rolled l) ∙ ap roll-AstKind e ∙ rolled k) v

pub kind_view : (k : AstKind) → KindView k
kind_view k = go (out-AstKind k) refl
  where
    go : (f : AstKind-F AstKind AstExpr) → f ≡ out-AstKind k → KindView k
    go (AstKind-F.Number n) e = let o : out-AstKind (kind.Number n) ≡ AstKind-F.Number n = search (rules, the_lemmas) in viewed k (kind.Number n) (o ∙ e) (a_number n)
    go (AstKind-F.Truth b) e = let o : out-AstKind (kind.Truth b) ≡ AstKind-F.Truth b = search (rules, the_lemmas) in viewed k (kind.Truth b) (o ∙ e) (a_truth b)
    go (AstKind-F.Name t) e = let o : out-AstKind (kind.Name t) ≡ AstKind-F.Name t = search (rules, the_lemmas) in viewed k (kind.Name t) (o ∙ e) (a_name t)
    go (AstKind-F.Index t i) e = let o : out-AstKind (kind.Index t i) ≡ AstKind-F.Index t i = search (rules, the_lemmas) in viewed k (kind.Index t i) (o ∙ e) (an_element t i)
    go (AstKind-F.Part m f) e = let o : out-AstKind (kind.Part m f) ≡ AstKind-F.Part m f = search (rules, the_lemmas) in viewed k (kind.Part m f) (o ∙ e) (a_part m f)
    go (AstKind-F.Not i) e = let o : out-AstKind (kind.Not i) ≡ AstKind-F.Not i = search (rules, the_lemmas) in viewed k (kind.Not i) (o ∙ e) (a_denial i)
    go (AstKind-F.Neg i) e = let o : out-AstKind (kind.Neg i) ≡ AstKind-F.Neg i = search (rules, the_lemmas) in viewed k (kind.Neg i) (o ∙ e) (a_negation i)
    go (AstKind-F.Binary p a b) e = let o : out-AstKind (kind.Binary p a b) ≡ AstKind-F.Binary p a b = search (rules, the_lemmas) in viewed k (kind.Binary p a b) (o ∙ e) (an_operation p a b)

-- ---- statements

rolled_stmt : (s : AstStmt) → roll-AstStmt (out-AstStmt s) ≡ s
rolled_stmt s = search (rules, of_stmts)

pub data StmtView : AstStmt → Type 0 where
  a_skip : StmtView stmt.Skip
  an_assignment : (targets : List AstTarget) (values : List AstExpr) → StmtView (stmt.Assign targets values)
  a_choice : (target : AstTarget) → StmtView (stmt.Choose target)
  a_send : (message : Ident) (values : List AstExpr) (to : Ident) → StmtView (stmt.Send message values to)
  a_start : (timer : Ident) (delay : AstExpr) → StmtView (stmt.Start timer delay)
  a_stop : (timer : Ident) → StmtView (stmt.Stop timer)
  a_selection : (branches : List AstBranch) → StmtView (stmt.If branches)
  a_loop : (count : ℤ) (place : Place) (branches : List AstBranch) → StmtView (stmt.Loop count place branches)

viewed_stmt : (s t : AstStmt) → out-AstStmt t ≡ out-AstStmt s → StmtView t → StmtView s
viewed_stmt s t e v = subst StmtView (sym (rolled_stmt t) ∙ ap roll-AstStmt e ∙ rolled_stmt s) v

pub stmt_view : (s : AstStmt) → StmtView s
stmt_view s = go (out-AstStmt s) refl
  where
    go : (f : AstStmt-F AstStmt AstBranch) → f ≡ out-AstStmt s → StmtView s
    go AstStmt-F.Skip e = let o : out-AstStmt stmt.Skip ≡ AstStmt-F.Skip = search (rules, of_stmts) in viewed_stmt s stmt.Skip (o ∙ e) a_skip
    go (AstStmt-F.Assign t v) e = let o : out-AstStmt (stmt.Assign t v) ≡ AstStmt-F.Assign t v = search (rules, of_stmts) in viewed_stmt s (stmt.Assign t v) (o ∙ e) (an_assignment t v)
    go (AstStmt-F.Choose t) e = let o : out-AstStmt (stmt.Choose t) ≡ AstStmt-F.Choose t = search (rules, of_stmts) in viewed_stmt s (stmt.Choose t) (o ∙ e) (a_choice t)
    go (AstStmt-F.Send m v q) e = let o : out-AstStmt (stmt.Send m v q) ≡ AstStmt-F.Send m v q = search (rules, of_stmts) in viewed_stmt s (stmt.Send m v q) (o ∙ e) (a_send m v q)
    go (AstStmt-F.Start t d) e = let o : out-AstStmt (stmt.Start t d) ≡ AstStmt-F.Start t d = search (rules, of_stmts) in viewed_stmt s (stmt.Start t d) (o ∙ e) (a_start t d)
    go (AstStmt-F.Stop t) e = let o : out-AstStmt (stmt.Stop t) ≡ AstStmt-F.Stop t = search (rules, of_stmts) in viewed_stmt s (stmt.Stop t) (o ∙ e) (a_stop t)
    go (AstStmt-F.If bs) e = let o : out-AstStmt (stmt.If bs) ≡ AstStmt-F.If bs = search (rules, of_stmts) in viewed_stmt s (stmt.If bs) (o ∙ e) (a_selection bs)
    go (AstStmt-F.Loop n p bs) e = let o : out-AstStmt (stmt.Loop n p bs) ≡ AstStmt-F.Loop n p bs = search (rules, of_stmts) in viewed_stmt s (stmt.Loop n p bs) (o ∙ e) (a_loop n p bs)
