-- Branches, guards, actions, and lists of statements and branches.
use Rattle.std.proofs.Common.{◌≡◌, ℕ, ◌+◌, refl, sym, ap, subst, List, [], ◌∷◌, Option, false, Result, Err, drop}
use Rattle.tap_base.specs.declared.place.Place.{Place}
use Rattle.tap_base.specs.declared.ast.AstAction.{AstAction}
use Rattle.tap_base.specs.declared.ast.AstBranch.{AstBranch}
use Rattle.tap_base.specs.declared.ast.AstExpr.{AstExpr}
use Rattle.tap_base.specs.declared.ast.AstGuard.{AstGuard}
use Rattle.tap_base.specs.declared.ast.AstGuard.TheVariants as guard
use Rattle.tap_base.specs.declared.ast.AstStmt.{AstStmt}
use Rattle.tap_base.specs.declared.ast.Ident.{Ident}
use Rattle.tap_base.specs.declared.token.Sign.{Sign}
use Rattle.tap_base.specs.declared.token.Sign.TheVariants as sign
use Rattle.tap_lexer.specs.Lexeme.{Lexeme}
use Rattle.tap_lexer.specs.Leaves.{ident}
use Rattle.tap_lexer.specs.declared.found.Found.{Found}
use Rattle.tap_lexer.specs.inner.Reading.{Shows}
use Rattle.tap_lexer.specs.inner.Reading.{Lacks, Free, Stands}
use Rattle.tap_expr.specs.Grammar.{expression}
use Rattle.tap_expr.specs.declared.found.Stuck.{Stuck}
use Rattle.tap_expr.specs.declared.found.Stuck.TheVariants as stuck
use Rattle.tap_expr.specs.inner.ExprReading.{carries_on, Stops}
use Rattle.tap_expr.proofs.ExprAlike.{stands_as}
use Rattle.tap_expr.proofs.ExprOne.{stops_before}
use Rattle.tap_parser.specs.Declarations.{IsName, name}
use Rattle.tap_parser.specs.Statements.{IsStmt, AreStmts, IsBranch, guarded, AreBranches, last, more, final, further, IsGuard, local, receive, timeout, IsAction}
use Rattle.tap_parser.specs.Systems.{Sized}
use Rattle.tap_parser.specs.declared.kept.Kept.{Kept}
use Rattle.tap_parser.specs.declared.kept.Kept.TheVariants.{Whole, Large}
use Rattle.tap_parser.specs.inner.Keeping.{both, mapped}
use Rattle.tap_parser.specs.inner.Forms.{Begins, StmtStops, BodyStops, BranchesStop}
use Rattle.tap_parser.specs.inner.Reading.{Answers}
use Rattle.tap_parser.proofs.TextParts.{Form, Both, renamed, After, after, Here, anywhere, begins_here, lacks_here, both_here, renamed_answers, fails}
use Rattle.tap_parser.proofs.TextBounds.{Name}
use Rattle.tap_parser.proofs.TextLists.{Further, done, next}
use Rattle.tap_parser.proofs.TextExprs.{opens_expr, sized_opens, unopened}
use Rattle.tap_parser.proofs.TextStatements.{Stmts, empty_here}

-- ---- what ends statements and branches

pub semicolon_stops : (ts : List Lexeme) → Begins sign.Semicolon ts → StmtStops ts
unfolding carries_on
semicolon_stops [] e = absurd e
semicolon_stops (x ∷ us) e = (stops_before sign.Semicolon x us refl e, λ f. absurd cc)

pub box_stops : (ts : List Lexeme) → Begins sign.Box ts → BodyStops ts
unfolding carries_on
box_stops [] e = absurd e
box_stops (x ∷ us) e = ((stops_before sign.Box x us refl e, λ f. absurd cc), λ f. absurd cc)

pub fi_stops : (x : Lexeme) (us : List Lexeme) → x.sign ≡ sign.Fi → BranchesStop (x ∷ us)
unfolding carries_on
fi_stops x us e = (((stops_before sign.Fi x us refl e, λ f. absurd cc), λ f. absurd cc), λ f. absurd cc)

pub od_stops : (x : Lexeme) (us : List Lexeme) → x.sign ≡ sign.Od → BranchesStop (x ∷ us)
unfolding carries_on
od_stops x us e = (((stops_before sign.Od x us refl e, λ f. absurd cc), λ f. absurd cc), λ f. absurd cc)

pub end_stops : (x : Lexeme) (us : List Lexeme) → x.sign ≡ sign.End → BodyStops (x ∷ us)
unfolding carries_on
end_stops x us e = ((stops_before sign.End x us refl e, λ f. absurd cc), λ f. absurd cc)

pub arrow_stops : (x : Lexeme) (us : List Lexeme) → x.sign ≡ sign.Arrow → Stops expression (x ∷ us)
unfolding carries_on
arrow_stops x us e = stops_before sign.Arrow x us refl e

pub bracket_stops : (x : Lexeme) (us : List Lexeme) → x.sign ≡ sign.CloseIndex → Stops expression (x ∷ us)
unfolding carries_on
bracket_stops x us e = stops_before sign.CloseIndex x us refl e

pub comma_stops : (x : Lexeme) (us : List Lexeme) → x.sign ≡ sign.Comma → Stops expression (x ∷ us)
unfolding carries_on
comma_stops x us e = stops_before sign.Comma x us refl e

pub paren_stops : (x : Lexeme) (us : List Lexeme) → x.sign ≡ sign.Close → Stops expression (x ∷ us)
unfolding carries_on
paren_stops x us e = stops_before sign.Close x us refl e

pub paren_ends : (x : Lexeme) (us : List Lexeme) → x.sign ≡ sign.Close → Stops expression (x ∷ us) × (x.sign ≡ sign.Comma → ⊥)
paren_ends x us e = (paren_stops x us e, λ f. absurd cc)

pub no_expr_at : (s : Sign) → opens_expr s ≡ false → (n : Option ℕ) (a : AstExpr) (x : Lexeme) (ts us : List Lexeme) → x.sign ≡ s → Sized n a (x ∷ ts) us → ⊥
no_expr_at s q n a x ts us e r = unopened s (x ∷ ts) q (sized_opens n a (x ∷ ts) us r) e

pub no_expr_at_close : (n : Option ℕ) (a : AstExpr) (x : Lexeme) (ts us : List Lexeme) → x.sign ≡ sign.Close → Sized n a (x ∷ ts) us → ⊥
no_expr_at_close n a x ts us e r = no_expr_at sign.Close refl n a x ts us e r

-- ---- lists of statements

abbrev pub Steps : Form AstStmt
Steps n = After sign.Semicolon (IsStmt (Sized n))

abbrev pub Bodies : Form (List AstStmt)
Bodies n = AreStmts (Sized n)

pub step_starts : (n : Option ℕ) (a : AstStmt) (ts us : List Lexeme) → Steps n a ts us → Begins sign.Semicolon ts
step_starts n a ts us (after e i) = e

list_of : (n : Option ℕ) (a : AstStmt) (l : List AstStmt) (ts us ws : List Lexeme) → IsStmt (Sized n) a ts us → Further (Steps n) l us ws → AreStmts (Sized n) (a ∷ l) ts ws
list_of n a l ts us ws i done = last i
list_of n a l ts us ws i (next {a = b} {as_ = k} {us = ms} (after {ts = ns} e j) f) = more i e (list_of n b k ns ms ws j f)

pub to_body : (n : Option ℕ) (v : AstStmt × List AstStmt) (ts ws : List Lexeme) → Both Stmts (λ m. Further (Steps m)) n v ts ws → AreStmts (Sized n) (v.0 ∷ v.1) ts ws
to_body n v ts ws (us, i, f) = list_of n v.0 v.1 ts us ws i f

pub of_body : (n : Option ℕ) (l : List AstStmt) (ts ws : List Lexeme) → AreStmts (Sized n) l ts ws → (v : AstStmt × List AstStmt) × Both Stmts (λ m. Further (Steps m)) n v ts ws × (l ≡ v.0 ∷ v.1)
of_body n l ts ws (last {s} i) = ((s, []), (ws, i, done), refl)
of_body n l ts ws (more {s} {ss} {x} {us = ks} i e r) =
    let b = of_body n ss ks ws r in
    let G : List AstStmt → Type 0 = λ k. Further (Steps n) k (x ∷ ks) ws in
    ((s, ss), (x ∷ ks, i, subst G (sym b.2) (next (after e b.1.1) b.1.2)), refl)

-- ---- branches

abbrev pub ToBody : Form (List AstStmt)
ToBody n = After sign.Arrow (AreStmts (Sized n))

abbrev pub Branches : Form AstBranch
Branches n = IsBranch (Sized n)

abbrev pub branch_of : AstExpr × List AstStmt → AstBranch
branch_of v = record { guard = v.0; body = v.1 }

roll_branch : (n : Option ℕ) (v : AstExpr × List AstStmt) (ts us : List Lexeme) → Both Sized ToBody n v ts us → IsBranch (Sized n) (branch_of v) ts us
roll_branch n v ts us (ks, g, after e b) = guarded g e b

pub unroll_branch : (n : Option ℕ) (b : AstBranch) (ts us : List Lexeme) → IsBranch (Sized n) b ts us → (v : AstExpr × List AstStmt) × Both Sized ToBody n v ts us × (b ≡ branch_of v)
unroll_branch n b ts us (guarded {e = g} {body} {x} {us = ks} r e s) = ((g, body), (x ∷ ks, r, after e s), refl)

pub arrow_follows : (n : Option ℕ) (l : List AstStmt) (us ws : List Lexeme) → ToBody n l us ws → BodyStops ws → Stops expression us
arrow_follows n l us ws (after {x} {ts = ks} e b) s = arrow_stops x ks e

pub branch_answers : (xs : List Lexeme) (at : ℕ) (r : Result (Found (Kept (AstExpr × List AstStmt))) Stuck) → Answers (Both Sized ToBody) BodyStops xs at r → Answers Branches BodyStops xs at (renamed branch_of r)
branch_answers xs at r h = renamed_answers (Both Sized ToBody) Branches BodyStops BodyStops branch_of Free (λ n a ts us q p. roll_branch n a ts us p) (λ n b ts us q p s. unroll_branch n b ts us p) (λ us s. s) xs at r (anywhere xs at) h

pub branch_value : (g : Kept AstExpr) (b : Kept (List AstStmt)) → both (λ c d. record { guard = c; body = d }) g b ≡ mapped branch_of (both (λ c d. (c, d)) g b)
branch_value (Whole c) (Whole d) = refl
branch_value (Whole c) (Large j) = refl
branch_value (Large i) b = refl

abbrev pub BranchSteps : Form AstBranch
BranchSteps n = After sign.Box (IsBranch (Sized n))

abbrev pub BranchLists : Form (List AstBranch)
BranchLists n = AreBranches (Sized n)

pub branch_starts : (n : Option ℕ) (a : AstBranch) (ts us : List Lexeme) → BranchSteps n a ts us → Begins sign.Box ts
branch_starts n a ts us (after e i) = e

branches_of : (n : Option ℕ) (a : AstBranch) (l : List AstBranch) (ts us ws : List Lexeme) → IsBranch (Sized n) a ts us → Further (BranchSteps n) l us ws → AreBranches (Sized n) (a ∷ l) ts ws
branches_of n a l ts us ws i done = final i
branches_of n a l ts us ws i (next {a = b} {as_ = k} {us = ms} (after {ts = ns} e j) f) = further i e (branches_of n b k ns ms ws j f)

pub to_branches : (n : Option ℕ) (v : AstBranch × List AstBranch) (ts ws : List Lexeme) → Both Branches (λ m. Further (BranchSteps m)) n v ts ws → AreBranches (Sized n) (v.0 ∷ v.1) ts ws
to_branches n v ts ws (us, i, f) = branches_of n v.0 v.1 ts us ws i f

pub of_branches : (n : Option ℕ) (l : List AstBranch) (ts ws : List Lexeme) → AreBranches (Sized n) l ts ws → (v : AstBranch × List AstBranch) × Both Branches (λ m. Further (BranchSteps m)) n v ts ws × (l ≡ v.0 ∷ v.1)
of_branches n l ts ws (final {b} i) = ((b, []), (ws, i, done), refl)
of_branches n l ts ws (further {b} {bs} {x} {us = ks} i e r) =
    let c = of_branches n bs ks ws r in
    let G : List AstBranch → Type 0 = λ k. Further (BranchSteps n) k (x ∷ ks) ws in
    ((b, bs), (x ∷ ks, i, subst G (sym c.2) (next (after e c.1.1) c.1.2)), refl)

-- ---- guards

abbrev pub Guards : Form AstGuard
Guards n = IsGuard (Sized n)

abbrev pub ToSender : Form Ident
ToSender n = After sign.From IsName

abbrev pub ReceiveForm : Form (Ident × Ident)
ReceiveForm n = After sign.Rcv (Both Name ToSender n)

abbrev pub TimeoutForm : Form Ident
TimeoutForm n = After sign.Timeout IsName

abbrev pub receive_of : Ident × Ident → AstGuard
receive_of v = guard.Receive v.0 v.1

roll_receive : (n : Option ℕ) (v : Ident × Ident) (ts us : List Lexeme) → ReceiveForm n v ts us → IsGuard (Sized n) (receive_of v) ts us
roll_receive n v ts us (after e (ks, name f, after g (name h))) = receive e f g h

pub unroll_receive : (n : Option ℕ) (b : AstGuard) (ts us : List Lexeme) → Begins sign.Rcv ts → IsGuard (Sized n) b ts us → (v : Ident × Ident) × ReceiveForm n v ts us × (b ≡ receive_of v)
unroll_receive n b ts us q (local {e} r) = absurd (unopened sign.Rcv ts refl (sized_opens n e ts us r) q)
unroll_receive n b ts us q (receive {y} {z} {w} {ts = ks} e f g h) = ((ident y, ident w), after e (z ∷ w ∷ ks, name f, after g (name h)), refl)
unroll_receive n b ts us q (timeout e f) = absurd cc

roll_timeout : (n : Option ℕ) (v : Ident) (ts us : List Lexeme) → TimeoutForm n v ts us → IsGuard (Sized n) (guard.Timeout v) ts us
roll_timeout n v ts us (after e (name f)) = timeout e f

pub unroll_timeout : (n : Option ℕ) (b : AstGuard) (ts us : List Lexeme) → Begins sign.Timeout ts → IsGuard (Sized n) b ts us → (v : Ident) × TimeoutForm n v ts us × (b ≡ guard.Timeout v)
unroll_timeout n b ts us q (local {e} r) = absurd (unopened sign.Timeout ts refl (sized_opens n e ts us r) q)
unroll_timeout n b ts us q (receive e f g h) = absurd cc
unroll_timeout n b ts us q (timeout {y} e f) = (ident y, after e (name f), refl)

abbrev pub NoWord : List Lexeme → Type 0
NoWord ts = Lacks sign.Rcv ts × Lacks sign.Timeout ts

pub unroll_local : (n : Option ℕ) (b : AstGuard) (ts us : List Lexeme) → NoWord ts → IsGuard (Sized n) b ts us → (v : AstExpr) × Sized n v ts us × (b ≡ guard.Local v)
unroll_local n b ts us q (local {e} r) = (e, r, refl)
unroll_local n b ts us q (receive e f g h) = absurd (q.0 e)
unroll_local n b ts us q (timeout e f) = absurd (q.1 e)

module _ (xs : List Lexeme) (at : ℕ) where
  pub receive_answers : (r : Result (Found (Kept (Ident × Ident))) Stuck) → Shows sign.Rcv xs at → Answers ReceiveForm Free xs at r → Answers Guards (Stops expression) xs at (renamed receive_of r)
  receive_answers r x h = renamed_answers ReceiveForm Guards Free (Stops expression) receive_of (Begins sign.Rcv) (λ n a ts us q p. roll_receive n a ts us p) (λ n b ts us q p s. unroll_receive n b ts us q p) (λ us s. tt) xs at r (begins_here xs at sign.Rcv x) h

  pub timeout_answers : (r : Result (Found (Kept Ident)) Stuck) → Shows sign.Timeout xs at → Answers TimeoutForm Free xs at r → Answers Guards (Stops expression) xs at (renamed (λ v. guard.Timeout v) r)
  timeout_answers r x h = renamed_answers TimeoutForm Guards Free (Stops expression) (λ v. guard.Timeout v) (Begins sign.Timeout) (λ n a ts us q p. roll_timeout n a ts us p) (λ n b ts us q p s. unroll_timeout n b ts us q p) (λ us s. tt) xs at r (begins_here xs at sign.Timeout x) h

  pub local_answers : (r : Result (Found (Kept AstExpr)) Stuck) → Lacks sign.Rcv (drop at xs) → Lacks sign.Timeout (drop at xs) → Answers Sized (Stops expression) xs at r → Answers Guards (Stops expression) xs at (renamed (λ v. guard.Local v) r)
  local_answers r k l h = renamed_answers Sized Guards (Stops expression) (Stops expression) (λ v. guard.Local v) NoWord (λ n a ts us q p. local p) (λ n b ts us q p s. unroll_local n b ts us q p) (λ us s. s) xs at r (both_here xs at (Lacks sign.Rcv) (Lacks sign.Timeout) (lacks_here xs at sign.Rcv k) (lacks_here xs at sign.Timeout l)) h

-- ---- actions

abbrev pub Actions : Form AstAction
Actions n = IsAction (Sized n)

-- the token stands first
abbrev pub Heads : Lexeme → List Lexeme → Type 0
Heads x ts = (us : List Lexeme) × (ts ≡ x ∷ us)

abbrev pub action_of : Place → AstGuard × List AstStmt → AstAction
action_of p v = record { guard = v.0; body = v.1; place = p }

roll_action : (n : Option ℕ) (x : Lexeme) (v : AstGuard × List AstStmt) (ts us : List Lexeme) → Heads x ts → Both Guards ToBody n v ts us → IsAction (Sized n) (action_of x.place v) ts us
roll_action n x v ts us q (ks, g, after e b) =
    let G : List Lexeme → Type 0 = λ k. IsGuard (Sized n) v.0 k ks in
    let H : List Lexeme → Type 0 = λ k. IsAction (Sized n) (action_of x.place v) k us in
    subst H (sym q.1) (guarded_action n x v q.0 us ks (subst G q.1 g) (after e b))
  where
    guarded_action : (n : Option ℕ) (x : Lexeme) (v : AstGuard × List AstStmt) (ms us ks : List Lexeme) → IsGuard (Sized n) v.0 (x ∷ ms) ks → ToBody n v.1 ks us → IsAction (Sized n) (action_of x.place v) (x ∷ ms) us
    guarded_action n x v ms us ks g (after e b) = guarded g e b

pub unroll_action : (n : Option ℕ) (x : Lexeme) (b : AstAction) (ts us : List Lexeme) → Heads x ts → IsAction (Sized n) b ts us → (v : AstGuard × List AstStmt) × Both Guards ToBody n v ts us × (b ≡ action_of x.place v)
unroll_action n x b ts us q (guarded {g} {body} {x = z} {y} {us = ks} r e s) =
    let i : z ≡ x = cc in
    ((g, body), (y ∷ ks, r, after e s), ap (λ k. record { guard = g; body = body; place = k.place }) i)

heads_here : (xs : List Lexeme) (at : ℕ) (x : Lexeme) → Stands xs at x → Here xs at (Heads x)
heads_here xs at x w ys m h same = let v = stands_as xs ys m same at h x w in (drop (at + 1) ys, v.cut)

pub action_answers : (xs : List Lexeme) (at : ℕ) (x : Lexeme) (r : Result (Found (Kept (AstGuard × List AstStmt))) Stuck) → Stands xs at x → Answers (Both Guards ToBody) BodyStops xs at r → Answers Actions BodyStops xs at (renamed (action_of x.place) r)
action_answers xs at x r w h = renamed_answers (Both Guards ToBody) Actions BodyStops BodyStops (action_of x.place) (Heads x) (λ n a ts us q p. roll_action n x a ts us q p) (λ n b ts us q p s. unroll_action n x b ts us q p) (λ us s. s) xs at r (heads_here xs at x w) h

no_heads : (n : Option ℕ) (a : AstAction) (ts us : List Lexeme) → ts ≡ [] → IsAction (Sized n) a ts us → ⊥
no_heads n a ts us e (guarded r i b) = cc

pub no_action : (xs : List Lexeme) (at : ℕ) → drop at xs ≡ [] → Answers Actions BodyStops xs at (Err (stuck.At at))
no_action xs at e = fails Actions BodyStops (λ ts. ts ≡ []) xs at (empty_here xs at e) (λ n b ts us q i s. no_heads n b ts us q i)

pub action_value : (p : Place) (g : Kept AstGuard) (b : Kept (List AstStmt)) → both (λ c d. record { guard = c; body = d; place = p }) g b ≡ mapped (action_of p) (both (λ c d. (c, d)) g b)
action_value p (Whole c) (Whole d) = refl
action_value p (Whole c) (Large j) = refl
action_value p (Large i) b = refl

action_opens : (n : Option ℕ) (a : AstGuard) (ts us : List Lexeme) → Begins sign.End ts → IsGuard (Sized n) a ts us → ⊥
action_opens n a ts us q (local {e} r) = unopened sign.End ts refl (sized_opens n e ts us r) q
action_opens n a ts us q (receive e f g h) = cc
action_opens n a ts us q (timeout e f) = cc

pub no_action_at_end : (n : Option ℕ) (a : AstAction) (x : Lexeme) (ts us : List Lexeme) → x.sign ≡ sign.End → IsAction (Sized n) a (x ∷ ts) us → ⊥
no_action_at_end n a x ts us q (guarded {g} {y} {us = ks} r e s) = action_opens n g (x ∷ ts) (y ∷ ks) q r
