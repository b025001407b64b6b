-- Statements without an offence name deeds that are met: by induction on statements.
use Rattle.std.proofs.Common.{◌≡◌, ℕ, Bool, not, List, [], ◌∷◌, Option, Some, map, sym, ◌∙◌, subst, rules}
use Rattle.std.specs.Prelude.{option_and_then, unsigned_abs}
use Rattle.std.proofs.lemmas.Option.{same_Some}
use Rattle.tap_base.specs.declared.refusal.Refusal.{Refusal}
use Rattle.tap_base.specs.declared.refusal.RefusalCode.TheVariants.{X1}
use Rattle.tap_base.specs.declared.ast.AstBranch.{AstBranch, roll-AstBranch, map-AstBranch}
use Rattle.tap_base.specs.declared.ast.AstStmt.{AstStmt, roll-AstStmt, map-AstStmt, the_lemmas}
use Rattle.tap_base.specs.declared.ast.AstStmt.TheOpen.{AstStmt-F, AstBranch-F}
use Rattle.tap_base.specs.declared.ast.AstStmt.TheFolds.{ind-AstStmt}
use Rattle.tap_base.specs.declared.system.Process.{Process}
use Rattle.tap_base.specs.declared.system.System.{System}
use Rattle.tap_base.specs.declared.tree.Branch.{Branch}
use Rattle.tap_base.specs.declared.tree.Stmt.{Stmt}
use Rattle.tap_base.specs.declared.tree.Stmt.TheVariants as stmt
use Rattle.tap_base.specs.Lists.{Each}
use Rattle.tap_base.proofs.ListFacts.{each_append, each_split, none_first, none_second}
use Rattle.tap_base.proofs.OptionFacts.{bound, mapped}
use Rattle.tap_names.specs.declared.named.Kind.TheVariants.{Boolean}
use Rattle.tap_base.specs.ListWords.{joined, some_of}
use Rattle.tap_base.specs.Offences.{where_}
use Rattle.tap_types.specs.ExprOffences.{value_offences}
use Rattle.tap_types.specs.Given.{IsGiven}
use Rattle.tap_types.specs.Pieces.{Piece, branch_pieces, branch_pieces_step, pieces, pieces_step}
use Rattle.tap_base.specs.Parts.{Deed, branch_deeds, deeds, test, turns, joined as deeds_joined}
use Rattle.tap_base.specs.Scope.{Scope as Reach}
use Rattle.tap_types.specs.Scopes.{Scope}
use Rattle.tap_types.specs.SendOffences.{unreceived_behind, unreceived_branch, unreceived_in, unreceived_level}
use Rattle.tap_types.specs.StmtOffences.{branch_level, branch_offences, is_count, stmt_level, stmt_offences}
use Rattle.tap_types.specs.Systems.{branch_of, branch_of_level, expr_of, stmt_of, stmt_of_level}
use Rattle.tap_types.proofs.whole.Deeds.{deeds_branch, deeds_if, deeds_loop, deeds_skip}
use Rattle.tap_types.proofs.whole.Numbers.{turns_counted}
use Rattle.tap_types.proofs.whole.Sendable.{Sendable}
use Rattle.tap_types.proofs.whole.Standing.{Stands}
use Rattle.tap_types.proofs.whole.WholeDeeds.{GoodDeed, assign_good, choose_good, send_good, start_good, stop_good}
use Rattle.tap_types.proofs.whole.WholeExprs.{good_test}
use Rattle.tap_base.proofs.GatheredFacts.{each_first_of}
use Rattle.tap_base.proofs.OffenceFacts.{met}

-- what is found of one part of a tree has deeds of the fact, where the part is given and has no offence of either kind
abbrev pub HasGood : {A B : Type 0} → (A → List Piece) → (A → List Refusal) → (A → List Refusal) → (A → Option B) → (B → List Deed) → (Deed → Type 0) → A → Type 0
HasGood {A} {B} G O U f D P a = (b : B) → Each IsGiven (G a) → O a ≡ [] → U a ≡ [] → f a ≡ Some b → Each P (D b)

-- and so of a list of parts
module _ {A B : Type 0} (G : A → List Piece) (O U : A → List Refusal) (f : A → Option B) (D : B → List Deed) (P : Deed → Type 0) where
  abbrev Parts : Type 0
  Parts = (a : A) × HasGood G O U f D P a

  all_good : (xs : List Parts) (ys : List B) → Each IsGiven (joined (map G (map (λ e. e.0) xs))) → joined (map O (map (λ e. e.0) xs)) ≡ [] → joined (map U (map (λ e. e.0) xs)) ≡ [] → some_of (map f (map (λ e. e.0) xs)) ≡ Some ys → Each P (deeds_joined (map D ys))
  all_good [] ys g o u e = let F : List B → Type 0 = λ z. Each P (deeds_joined (map D z)) in subst F (same_Some [] ys e) tt
  all_good (x ∷ xs) ys g o u e =
      let F : List B → Type 0 = λ z. Each P (deeds_joined (map D z)) in
      let rest = map (λ (e : Parts). e.0) xs in
      let given = each_split IsGiven (G x.0) (joined (map G rest)) g in
      let r = each_first_of (λ z. z) (f x.0) (map f rest) ys e in
      let here = x.1 r.0 given.0 (none_first (O x.0) (joined (map O rest)) o) (none_first (U x.0) (joined (map U rest)) u) r.2 in
      let later = all_good xs r.1 given.1 (none_second (O x.0) (joined (map O rest)) o) (none_second (U x.0) (joined (map U rest)) u) r.3 in
      subst F r.4 (each_append P (D r.0) (deeds_joined (map D r.1)) here later)

  pub all_alike : (xs : List A) (ys : List B) → ((a : A) → HasGood G O U f D P a) → Each IsGiven (joined (map G xs)) → joined (map O xs) ≡ [] → joined (map U xs) ≡ [] → some_of (map f xs) ≡ Some ys → Each P (deeds_joined (map D ys))
  all_alike [] ys k g o u e = let F : List B → Type 0 = λ z. Each P (deeds_joined (map D z)) in subst F (same_Some [] ys e) tt
  all_alike (x ∷ xs) ys k g o u e =
      let F : List B → Type 0 = λ z. Each P (deeds_joined (map D z)) in
      let given = each_split IsGiven (G x) (joined (map G xs)) g in
      let r = each_first_of (λ z. z) (f x) (map f xs) ys e in
      let here = k x r.0 given.0 (none_first (O x) (joined (map O xs)) o) (none_first (U x) (joined (map U xs)) u) r.2 in
      let later = all_alike xs r.1 k given.1 (none_second (O x) (joined (map O xs)) o) (none_second (U x) (joined (map U xs)) u) r.3 in
      subst F r.4 (each_append P (D r.0) (deeds_joined (map D r.1)) here later)

module _ (c : Scope) (system : System) (p : ℕ) (process : Process) (s : Reach) (received : List ℕ → List ℕ → Bool) (h : Stands c s process.timers) (n : Sendable c system p received) where
  abbrev P : Deed → Type 0
  P = GoodDeed system p process s

  abbrev GoodStmt : AstStmt → Type 0
  GoodStmt = HasGood pieces (stmt_offences c) (unreceived_in received) (stmt_of c) deeds P

  abbrev GoodBranch : AstBranch → Type 0
  GoodBranch = HasGood branch_pieces (branch_offences c) (unreceived_behind received) (branch_of c) branch_deeds P

  abbrev S : Type 0
  S = (s : AstStmt) × GoodStmt s

  abbrev B : Type 0
  B = (b : AstBranch) × GoodBranch b

  -- ---- one level down

  given_stmt : (x : AstStmt-F AstStmt AstBranch) → pieces (roll-AstStmt x) ≡ pieces_step (map-AstStmt AstStmt AstBranch (List Piece) (List Piece) pieces branch_pieces x)
  given_stmt x = search (rules, the_lemmas)

  judged_stmt : (x : AstStmt-F AstStmt AstBranch) → stmt_offences c (roll-AstStmt x) ≡ stmt_level c (map-AstStmt AstStmt AstBranch (List Refusal) (List Refusal) (stmt_offences c) (branch_offences c) x)
  judged_stmt x = search (rules, the_lemmas)

  sent_stmt : (x : AstStmt-F AstStmt AstBranch) → unreceived_in received (roll-AstStmt x) ≡ unreceived_level received (map-AstStmt AstStmt AstBranch (List Refusal) (List Refusal) (unreceived_in received) (unreceived_behind received) x)
  sent_stmt x = search (rules, the_lemmas)

  named_stmt : (x : AstStmt-F AstStmt AstBranch) → stmt_of c (roll-AstStmt x) ≡ stmt_of_level c (map-AstStmt AstStmt AstBranch (Option Stmt) (Option Branch) (stmt_of c) (branch_of c) x)
  named_stmt x = search (rules, the_lemmas)

  given_branch : (x : AstBranch-F AstStmt AstBranch) → branch_pieces (roll-AstBranch x) ≡ branch_pieces_step (map-AstBranch AstStmt AstBranch (List Piece) (List Piece) pieces branch_pieces x)
  given_branch x = search (rules, the_lemmas)

  judged_branch : (x : AstBranch-F AstStmt AstBranch) → branch_offences c (roll-AstBranch x) ≡ branch_level c (map-AstBranch AstStmt AstBranch (List Refusal) (List Refusal) (stmt_offences c) (branch_offences c) x)
  judged_branch x = search (rules, the_lemmas)

  sent_branch : (x : AstBranch-F AstStmt AstBranch) → unreceived_behind received (roll-AstBranch x) ≡ unreceived_branch (map-AstBranch AstStmt AstBranch (List Refusal) (List Refusal) (unreceived_in received) (unreceived_behind received) x)
  sent_branch x = search (rules, the_lemmas)

  named_branch : (x : AstBranch-F AstStmt AstBranch) → branch_of c (roll-AstBranch x) ≡ branch_of_level c (map-AstBranch AstStmt AstBranch (Option Stmt) (Option Branch) (stmt_of c) (branch_of c) x)
  named_branch x = search (rules, the_lemmas)

  abbrev GoodLevel : AstStmt-F AstStmt AstBranch → Type 0
  GoodLevel x = (y : Stmt) → Each IsGiven (pieces_step (map-AstStmt AstStmt AstBranch (List Piece) (List Piece) pieces branch_pieces x))
      → stmt_level c (map-AstStmt AstStmt AstBranch (List Refusal) (List Refusal) (stmt_offences c) (branch_offences c) x) ≡ []
      → unreceived_level received (map-AstStmt AstStmt AstBranch (List Refusal) (List Refusal) (unreceived_in received) (unreceived_behind received) x) ≡ []
      → stmt_of_level c (map-AstStmt AstStmt AstBranch (Option Stmt) (Option Branch) (stmt_of c) (branch_of c) x) ≡ Some y
      → Each P (deeds y)

  level : (x : AstStmt-F AstStmt AstBranch) → GoodLevel x → GoodStmt (roll-AstStmt x)
  level x f y g o u e = f y (subst (Each IsGiven) (given_stmt x) g) (sym (judged_stmt x) ∙ o) (sym (sent_stmt x) ∙ u) (sym (named_stmt x) ∙ e)

  abbrev GoodBranchLevel : AstBranch-F AstStmt AstBranch → Type 0
  GoodBranchLevel x = (y : Branch) → Each IsGiven (branch_pieces_step (map-AstBranch AstStmt AstBranch (List Piece) (List Piece) pieces branch_pieces x))
      → branch_level c (map-AstBranch AstStmt AstBranch (List Refusal) (List Refusal) (stmt_offences c) (branch_offences c) x) ≡ []
      → unreceived_branch (map-AstBranch AstStmt AstBranch (List Refusal) (List Refusal) (unreceived_in received) (unreceived_behind received) x) ≡ []
      → branch_of_level c (map-AstBranch AstStmt AstBranch (Option Stmt) (Option Branch) (stmt_of c) (branch_of c) x) ≡ Some y
      → Each P (branch_deeds y)

  branch_roll : (x : AstBranch-F AstStmt AstBranch) → GoodBranchLevel x → GoodBranch (roll-AstBranch x)
  branch_roll x f y g o u e = f y (subst (Each IsGiven) (given_branch x) g) (sym (judged_branch x) ∙ o) (sym (sent_branch x) ∙ u) (sym (named_branch x) ∙ e)

  -- ---- statements

  of_stmt : (y : AstStmt-F S B) → GoodStmt (roll-AstStmt (map-AstStmt S B AstStmt AstBranch (λ e. e.0) (λ e. e.0) y))
  of_stmt AstStmt-F.Skip = level AstStmt-F.Skip (λ x g o u e. subst (λ z. Each P (deeds z)) (same_Some stmt.Skip x e) (subst (Each P) (sym deeds_skip) tt))
  of_stmt (AstStmt-F.Assign ts es) = level (AstStmt-F.Assign ts es) (λ x g o u e. assign_good c system p process s received h n ts es x g o e)
  of_stmt (AstStmt-F.Choose t) = level (AstStmt-F.Choose t) (λ x g o u e. choose_good c system p process s received h n t x g o e)
  of_stmt (AstStmt-F.Send m es q) = level (AstStmt-F.Send m es q) (λ x g o u e. send_good c system p process s received h n m es q x g o u e)
  of_stmt (AstStmt-F.Start t delay) = level (AstStmt-F.Start t delay) (λ x g o u e. start_good c system p process s received h n t delay x g.0 o e)
  of_stmt (AstStmt-F.Stop t) = level (AstStmt-F.Stop t) (λ x g o u e. stop_good c system p process s received h n t x e)
  of_stmt (AstStmt-F.If bs) = level (AstStmt-F.If (map (λ e. e.0) bs)) (λ x g o u e.
      let m = mapped (λ z. stmt.If z) (some_of (map (branch_of c) (map (λ e. e.0) bs))) x e in
      let all = all_good branch_pieces (branch_offences c) (unreceived_behind received) (branch_of c) branch_deeds P bs m.0 g o u m.1 in
      subst (λ z. Each P (deeds z)) m.2 (subst (Each P) (sym (deeds_if m.0)) all))
  of_stmt (AstStmt-F.Loop k place bs) = level (AstStmt-F.Loop k place (map (λ e. e.0) bs)) (λ x g o u e.
      let m = mapped (λ z. stmt.Loop (unsigned_abs k) z) (some_of (map (branch_of c) (map (λ e. e.0) bs))) x e in
      let inner = joined (map (branch_offences c) (map (λ (e : B). e.0) bs)) in
      let all = all_good branch_pieces (branch_offences c) (unreceived_behind received) (branch_of c) branch_deeds P bs m.0 g (none_second (where_ (not (is_count k)) X1 place) inner o) u m.1 in
      let count = turns_counted k (met (is_count k) X1 place (none_first (where_ (not (is_count k)) X1 place) inner o)) in
      let good : P (turns (unsigned_abs k)) = (count, tt, tt) in
      subst (λ z. Each P (deeds z)) m.2 (subst (Each P) (sym (deeds_loop (unsigned_abs k) m.0)) (good, all)))

  of_branch : (y : AstBranch-F S B) → GoodBranch (roll-AstBranch (map-AstBranch S B AstStmt AstBranch (λ e. e.0) (λ e. e.0) y))
  of_branch y =
      let body = map (λ (e : S). e.0) y.body in
      branch_roll (map-AstBranch S B AstStmt AstBranch (λ e. e.0) (λ e. e.0) y) (λ x g o u e.
      let a = bound (λ a. option_and_then (λ b. Some (record { guard = a; body = b })) (some_of (map (stmt_of c) body))) (expr_of c y.guard) x e in
      let b = bound (λ b. Some (record { guard = a.0; body = b })) (some_of (map (stmt_of c) body)) x a.2 in
      let t = good_test c s process.timers h y.guard a.0 g.0 (none_first (value_offences c Boolean y.guard) (joined (map (stmt_offences c) body)) o) a.1 in
      let all = all_good pieces (stmt_offences c) (unreceived_in received) (stmt_of c) deeds P y.body b.0 g.1 (none_second (value_offences c Boolean y.guard) (joined (map (stmt_offences c) body)) o) u b.1 in
      let good : P (test a.0) = (t.0, t.1, tt) in
      subst (λ z. Each P (branch_deeds z)) (same_Some (record { guard = a.0; body = b.0 }) x b.2) (subst (Each P) (sym (deeds_branch a.0 b.0)) (good, all)))

  stmt_good : (a : AstStmt) → GoodStmt a
  stmt_good = ind-AstStmt GoodStmt GoodBranch
      (λ x y is. let G : AstStmt-F AstStmt AstBranch → Type 0 = λ z. GoodStmt (roll-AstStmt z) in subst G is (of_stmt y))
      (λ x y is. let G : AstBranch-F AstStmt AstBranch → Type 0 = λ z. GoodBranch (roll-AstBranch z) in subst G is (of_branch y))

  -- of a body
  pub body_good : (body : List AstStmt) (xs : List Stmt) → Each IsGiven (joined (map pieces body)) → joined (map (stmt_offences c) body) ≡ [] → joined (map (unreceived_in received) body) ≡ [] → some_of (map (stmt_of c) body) ≡ Some xs → Each P (deeds_joined (map deeds xs))
  body_good body xs g o u e = all_alike pieces (stmt_offences c) (unreceived_in received) (stmt_of c) deeds P body xs stmt_good g o u e
