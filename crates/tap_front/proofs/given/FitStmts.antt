-- What is written in statements that are read from fitting tokens is given.
use Rattle.std.proofs.Common.{◌≡◌, ℤ, List, [], ◌∷◌, ◌++◌, map, flat_map, sym, subst, rules}
use Rattle.tap_base.specs.declared.place.Place.{Place}
use Rattle.tap_base.specs.declared.ast.AstBranch.{AstBranch}
use Rattle.tap_base.specs.declared.ast.AstExpr.{AstExpr}
use Rattle.tap_base.specs.declared.ast.AstGuard.{AstGuard}
use Rattle.tap_base.specs.declared.ast.AstStmt.{AstStmt, the_lemmas}
use Rattle.tap_base.specs.declared.ast.AstStmt.TheVariants as stmt
use Rattle.tap_base.specs.declared.ast.AstTarget.{AstTarget}
use Rattle.tap_base.specs.declared.ast.Ident.{Ident}
use Rattle.tap_base.specs.declared.token.Sign.TheVariants as sign
use Rattle.tap_base.specs.Lists.{Each}
use Rattle.tap_base.proofs.ListFacts.{each_append, each_flat_of}
use Rattle.tap_base.specs.ListWords.{joined}
use Rattle.tap_lexer.specs.Lexeme.{Lexeme}
use Rattle.tap_lexer.specs.Leaves.{ident}
use Rattle.tap_expr.specs.Grammar.{Reads, expression}
use Rattle.tap_parser.specs.Statements.{IsTarget, whole, element, IsStmt, skip, assign, choose, send, start, stop, select, repeat, AreStmts, last, more, IsBranch, guarded, AreBranches, final, further, IsGuard, local, receive, timeout, IsAction, guarded as action_guarded}
use Rattle.tap_types.specs.Given.{ActionIsGiven, GuardIsGiven, IsGiven, NumbersFit, StmtIsGiven}
use Rattle.tap_types.specs.Pieces.{Piece, branch_pieces, pieces, target_pieces, value, targets}
use Rattle.tap_front.proofs.given.FitExprs.{Gives, exprs_fit, separated_fit, separated_some, some_separated_fit}
use Rattle.tap_front.proofs.given.FitTokens.{Fit}

-- ---- pieces, one level down

pieces_skip : pieces stmt.Skip ≡ []
pieces_skip = search (rules, the_lemmas)

pieces_assign : (ts : List AstTarget) (es : List AstExpr) → pieces (stmt.Assign ts es) ≡ (targets ts ∷ (flat_map target_pieces ts ++ map value es))
pieces_assign ts es = search (rules, the_lemmas)

pieces_choose : (t : AstTarget) → pieces (stmt.Choose t) ≡ target_pieces t
pieces_choose t = search (rules, the_lemmas)

pieces_send : (m : Ident) (es : List AstExpr) (q : Ident) → pieces (stmt.Send m es q) ≡ map value es
pieces_send m es q = search (rules, the_lemmas)

pieces_start : (t : Ident) (e : AstExpr) → pieces (stmt.Start t e) ≡ (value e ∷ [])
pieces_start t e = search (rules, the_lemmas)

pieces_stop : (t : Ident) → pieces (stmt.Stop t) ≡ []
pieces_stop t = search (rules, the_lemmas)

pieces_if : (bs : List AstBranch) → pieces (stmt.If bs) ≡ joined (map branch_pieces bs)
pieces_if bs = search (rules, the_lemmas)

pieces_loop : (n : ℤ) (p : Place) (bs : List AstBranch) → pieces (stmt.Loop n p bs) ≡ joined (map branch_pieces bs)
pieces_loop n p bs = search (rules, the_lemmas)

pieces_branch : (e : AstExpr) (body : List AstStmt) → branch_pieces (record { guard = e; body = body }) ≡ (value e ∷ joined (map pieces body))
pieces_branch e body = search (rules, the_lemmas)

-- ---- lists of pieces

values_given : (es : List AstExpr) → Each NumbersFit es → Each IsGiven (map value es)
values_given [] h = tt
values_given (e ∷ es) h = (h.0, values_given es h.1)

joined_given : {A : Type 0} (G : A → List Piece) (xs : List A) → Each (λ x. Each IsGiven (G x)) xs → Each IsGiven (joined (map G xs))
joined_given G [] h = tt
joined_given G (x ∷ xs) h = each_append IsGiven (G x) (joined (map G xs)) h.0 (joined_given G xs h.1)

abbrev TargetIsGiven : AstTarget → Type 0
TargetIsGiven t = Each IsGiven (target_pieces t)

abbrev BranchIsGiven : AstBranch → Type 0
BranchIsGiven b = Each IsGiven (branch_pieces b)

-- ---- statements

target_fit : Gives (IsTarget (Reads expression)) TargetIsGiven
target_fit a ts us (whole e) h = (tt, h.1)
target_fit a ts us (element {e = d} {z} {ts = ks} e i r k) h = let a = exprs_fit d ks (z ∷ us) r h.1.1 in ((a.0, tt), a.1.1)

mutual
  stmt_fit : {a : AstStmt} {ts us : List Lexeme} → IsStmt (Reads expression) a ts us → Fit ts → StmtIsGiven a × Fit us
  stmt_fit (skip e) h = (subst (Each IsGiven) (sym pieces_skip) tt, h.1)
  stmt_fit (assign {targets} {values} {x} {ts} {us} {ws} t e v) h =
      let a = separated_fit (IsTarget (Reads expression)) TargetIsGiven target_fit sign.Comma targets ts (x ∷ us) t h in
      let b = separated_fit (Reads expression) NumbersFit exprs_fit sign.Comma values us ws v a.1.1 in
      let aimed = each_flat_of TargetIsGiven IsGiven target_pieces targets (λ t g. g) a.0 in
      (subst (Each IsGiven) (sym (pieces_assign targets values)) (separated_some t, each_append IsGiven (flat_map target_pieces targets) (map value values) aimed (values_given values b.0)), b.1)
  stmt_fit (choose {target} {x} {ts} {us} e t) h = let a = target_fit target ts us t h.1 in (subst (Each IsGiven) (sym (pieces_choose target)) a.0, a.1)
  stmt_fit (send {values} {x} {y} {z} {w} {v} {u} {ts} {us} e g k vs i j l) h =
      let a = some_separated_fit (Reads expression) NumbersFit exprs_fit sign.Comma values ts (w ∷ v ∷ u ∷ us) vs h.1.1.1 in
      (subst (Each IsGiven) (sym (pieces_send (ident y) values (ident u))) (values_given values a.0), a.1.1.1.1)
  stmt_fit (start {delay} {x} {y} {z} {ts} {us} e g k d) h = let a = exprs_fit delay ts us d h.1.1.1 in (subst (Each IsGiven) (sym (pieces_start (ident y) delay)) (a.0, tt), a.1)
  stmt_fit (stop {x} {y} e g) h = (subst (Each IsGiven) (sym (pieces_stop (ident y))) tt, h.1.1)
  stmt_fit (select {branches} {x} {y} e b g) h = let a = branches_fit b h.1 in (subst (Each IsGiven) (sym (pieces_if branches)) (joined_given branch_pieces branches a.0), a.1.1)
  stmt_fit (repeat {branches} {x} {y} {z} {w} e g k b i) h = let a = branches_fit b h.1.1.1 in (subst (Each IsGiven) (sym (pieces_loop y.value y.place branches)) (joined_given branch_pieces branches a.0), a.1.1)

  stmts_fit : {l : List AstStmt} {ts us : List Lexeme} → AreStmts (Reads expression) l ts us → Fit ts → Each StmtIsGiven l × Fit us
  stmts_fit (last i) h = let a = stmt_fit i h in ((a.0, tt), a.1)
  stmts_fit (more i e r) h = let a = stmt_fit i h in let b = stmts_fit r a.1.1 in ((a.0, b.0), b.1)

  branch_fit : {b : AstBranch} {ts us : List Lexeme} → IsBranch (Reads expression) b ts us → Fit ts → BranchIsGiven b × Fit us
  branch_fit (guarded {e = g} {body} {x} {ts} {us} {ws} r e b) h =
      let a = exprs_fit g ts (x ∷ us) r h in
      let c = stmts_fit b a.1.1 in
      (subst (Each IsGiven) (sym (pieces_branch g body)) (a.0, joined_given pieces body c.0), c.1)

  branches_fit : {l : List AstBranch} {ts us : List Lexeme} → AreBranches (Reads expression) l ts us → Fit ts → Each BranchIsGiven l × Fit us
  branches_fit (final i) h = let a = branch_fit i h in ((a.0, tt), a.1)
  branches_fit (further i e r) h = let a = branch_fit i h in let b = branches_fit r a.1.1 in ((a.0, b.0), b.1)

-- ---- actions

guard_fit : {g : AstGuard} {ts us : List Lexeme} → IsGuard (Reads expression) g ts us → Fit ts → GuardIsGiven g × Fit us
guard_fit (local {e} {ts} {us} r) h = exprs_fit e ts us r h
guard_fit (receive e g k l) h = (tt, h.1.1.1.1)
guard_fit (timeout e g) h = (tt, h.1.1)

pub action_fit : Gives (IsAction (Reads expression)) ActionIsGiven
action_fit a ts us (action_guarded g e b) h =
    let c = guard_fit g h in
    let d = stmts_fit b c.1.1 in
    ((c.0, d.0), d.1)
