-- Every statement without an offence is named: by induction on statements.
use Rattle.std.proofs.Common.{◌≡◌, refl, sym, ◌∙◌, subst, true, false, not, ℕ, List, [], ◌++◌, map, Option, Some, None, rules}
use Rattle.std.specs.Prelude.{IsSome, is_some, flat_map, unsigned_abs}
use Rattle.std.specs.Option.{option_map, option_and_then}
use Rattle.tap_base.specs.declared.place.Place.{Place}
use Rattle.tap_base.specs.declared.refusal.Refusal.{Refusal}
use Rattle.tap_base.specs.declared.refusal.RefusalCode.TheVariants.{N1, X1}
use Rattle.tap_base.specs.declared.ast.AstBranch.{AstBranch, roll-AstBranch, map-AstBranch}
use Rattle.tap_base.specs.declared.ast.AstExpr.{AstExpr}
use Rattle.tap_base.specs.declared.ast.AstTarget.{AstTarget}
use Rattle.tap_base.specs.declared.ast.AstStmt.{AstStmt, roll-AstStmt, map-AstStmt, the_lemmas}
use Rattle.tap_base.specs.declared.ast.AstStmt.TheOpen.{AstStmt-F, AstBranch-F}
use Rattle.tap_base.specs.declared.ast.AstStmt.TheFolds.{ind-AstStmt}
use Rattle.tap_base.specs.declared.tree.Branch.{Branch}
use Rattle.tap_base.specs.declared.tree.Expr.{Expr}
use Rattle.tap_base.specs.declared.tree.Stmt.{Stmt}
use Rattle.tap_base.specs.declared.tree.Stmt.TheVariants as stmt
use Rattle.tap_names.specs.declared.named.Kind.{Kind}
use Rattle.tap_names.specs.declared.named.Kind.TheVariants.{Boolean, Number}
use Rattle.tap_names.specs.declared.named.Named.{Named}
use Rattle.tap_names.specs.declared.named.Named.TheVariants as named
use Rattle.tap_types.specs.ExprOffences.{judged_in, value_offences}
use Rattle.tap_base.specs.Option.{each}
use Rattle.tap_base.specs.Offences.{where_}
use Rattle.tap_types.specs.Scopes.{Scope, message_in, named_in, process_in}
use Rattle.tap_types.specs.StmtOffences.{branch_level, branch_offences, index_offences, is_count, kind_at, kinds_of, message_at, message_name, peer_at, peer_offences, unequal, value_count, stmt_level, stmt_offences, target_name, target_offences, timer_at, value_to}
use Rattle.tap_types.specs.Systems.{branch_of, branch_of_level, expr_of, index_of, stmt_of, stmt_of_level, target_at, target_of, timer_number}
use Rattle.tap_base.specs.ListWords.{some_of}
use Rattle.tap_types.proofs.NamedExprs.{known}
use Rattle.tap_base.proofs.ListFacts.{none_first, none_second}
use Rattle.tap_base.proofs.OptionFacts.{both_some, some_map, three_some}
use Rattle.tap_base.proofs.GatheredFacts.{all_some, each_numbered, each_some}
use Rattle.tap_base.proofs.OffenceFacts.{there}

-- ---- names

pub peer_there : (p : Place) (me : ℕ) (o : Option ℕ) → peer_at p me o ≡ [] → IsSome o
peer_there p me None h = absurd cc
peer_there p me (Some q) h = refl

pub timer_there : (p : Place) (o : Option Named) → timer_at p o ≡ [] → IsSome (timer_number o)
timer_there p None h = absurd cc
timer_there p (Some (named.Constant v)) h = absurd cc
timer_there p (Some (named.Input n k)) h = absurd cc
timer_there p (Some (named.Variable first k range)) h = absurd cc
timer_there p (Some (named.Array first length k range)) h = absurd cc
timer_there p (Some (named.Timer t)) h = refl

pub value_there : (c : Scope) (k : Kind) (e : AstExpr) → value_offences c k e ≡ [] → IsSome (expr_of c e)
value_there c k e h = known c e (none_first (judged_in c e).offences _ h)

value_to_there : (c : Scope) (k : Option Kind) (e : AstExpr) → value_to k (judged_in c e) ≡ [] → IsSome (expr_of c e)
value_to_there c None e h = known c e h
value_to_there c (Some k) e h = value_there c k e h

-- ---- targets

whole_there : (p : Place) (o : Option Named) → target_name p o false ≡ [] → IsSome (target_at p o None)
whole_there p None h = absurd cc
whole_there p (Some (named.Constant v)) h = absurd cc
whole_there p (Some (named.Input n k)) h = absurd cc
whole_there p (Some (named.Variable first k range)) h = refl
whole_there p (Some (named.Array first length k range)) h = absurd cc
whole_there p (Some (named.Timer t)) h = absurd cc

cell_there : (p : Place) (o : Option Named) (i : Expr) → target_name p o true ≡ [] → IsSome (target_at p o (Some i))
cell_there p None i h = absurd cc
cell_there p (Some (named.Constant v)) i h = absurd cc
cell_there p (Some (named.Input n k)) i h = absurd cc
cell_there p (Some (named.Variable first k range)) i h = absurd cc
cell_there p (Some (named.Array first length k range)) i h = refl
cell_there p (Some (named.Timer t)) i h = absurd cc

aimed : (c : Scope) (p : Place) (o : Option Named) (i : Option AstExpr) → target_name p o (is_some i) ++ index_offences c i ≡ [] → IsSome (option_and_then (target_at p o) (index_of c i))
aimed c p o None h = whole_there p o (none_first (target_name p o false) [] h)
aimed c p o (Some e) h = by (expr_of c e) (value_there c Number e (none_second (target_name p o true) _ h))
  where
    by : (x : Option Expr) → IsSome x → IsSome (option_and_then (target_at p o) (option_map Some x))
    by None k = absurd cc
    by (Some x) k = cell_there p o x (none_first (target_name p o true) _ h)

pub target_there : (c : Scope) (t : AstTarget) → target_offences c t ≡ [] → IsSome (target_of c t)
target_there c t h = aimed c t.name.place (named_in c t.name.text) t.index h

-- ---- statements

module _ (c : Scope) where
  abbrev KnownStmt : AstStmt → Type 0
  KnownStmt s = stmt_offences c s ≡ [] → IsSome (stmt_of c s)

  abbrev KnownBranch : AstBranch → Type 0
  KnownBranch b = branch_offences c b ≡ [] → IsSome (branch_of c b)

  abbrev S : Type 0
  S = (s : AstStmt) × KnownStmt s

  abbrev B : Type 0
  B = (b : AstBranch) × KnownBranch b

  judged_stmt : (x : AstStmt-F AstStmt AstBranch) → stmt_offences c (roll-AstStmt x) ≡ stmt_level c (map-AstStmt AstStmt AstBranch (List Refusal) (List Refusal) (stmt_offences c) (branch_offences c) x)
  judged_stmt x = search (rules, the_lemmas)

  named_stmt : (x : AstStmt-F AstStmt AstBranch) → stmt_of c (roll-AstStmt x) ≡ stmt_of_level c (map-AstStmt AstStmt AstBranch (Option Stmt) (Option Branch) (stmt_of c) (branch_of c) x)
  named_stmt x = search (rules, the_lemmas)

  judged_branch : (x : AstBranch-F AstStmt AstBranch) → branch_offences c (roll-AstBranch x) ≡ branch_level c (map-AstBranch AstStmt AstBranch (List Refusal) (List Refusal) (stmt_offences c) (branch_offences c) x)
  judged_branch x = search (rules, the_lemmas)

  named_branch : (x : AstBranch-F AstStmt AstBranch) → branch_of c (roll-AstBranch x) ≡ branch_of_level c (map-AstBranch AstStmt AstBranch (Option Stmt) (Option Branch) (stmt_of c) (branch_of c) x)
  named_branch x = search (rules, the_lemmas)

  level : (x : AstStmt-F AstStmt AstBranch) → (stmt_level c (map-AstStmt AstStmt AstBranch (List Refusal) (List Refusal) (stmt_offences c) (branch_offences c) x) ≡ [] → IsSome (stmt_of_level c (map-AstStmt AstStmt AstBranch (Option Stmt) (Option Branch) (stmt_of c) (branch_of c) x))) → KnownStmt (roll-AstStmt x)
  level x f h =
      let G : Option Stmt → Type 0 = λ o. IsSome o in
      subst G (sym (named_stmt x)) (f (sym (judged_stmt x) ∙ h))

  of_stmt : (y : AstStmt-F S B) → KnownStmt (roll-AstStmt (map-AstStmt S B AstStmt AstBranch (λ e. e.0) (λ e. e.0) y))
  of_stmt AstStmt-F.Skip = level AstStmt-F.Skip (λ h. refl)
  of_stmt (AstStmt-F.Assign ts es) = level (AstStmt-F.Assign ts es) (λ h.
      both_some (λ a b. stmt.Assign a b) (each (target_of c) ts) (each (expr_of c) es)
      (each_some (target_of c) (target_offences c) (target_there c) ts (none_first (flat_map (target_offences c) ts) (unequal ts es) (none_first (flat_map (target_offences c) ts ++ unequal ts es) _ h)))
      (each_numbered (expr_of c) (λ i e. value_to (kind_at (kinds_of c ts) i) (judged_in c e)) (λ i e. value_to_there c (kind_at (kinds_of c ts) i) e) 0 es (none_second (flat_map (target_offences c) ts ++ unequal ts es) _ h)))
  of_stmt (AstStmt-F.Choose t) = level (AstStmt-F.Choose t) (λ h. some_map (λ x. stmt.Choose x) (target_of c t) (target_there c t (none_first (target_offences c t) _ h)))
  of_stmt (AstStmt-F.Send m es q) = level (AstStmt-F.Send m es q) (λ h.
      let v = value_count m.place (message_at c (message_in c m.text)) es in
      let f = flat_map (value_offences c Number) es in
      let abc = none_first (message_name c m ++ v ++ f) (peer_offences c q) h in
      three_some (λ k x p. stmt.Send k x p) (message_in c m.text) (each (expr_of c) es) (process_in c q.text)
      (there (message_in c m.text) N1 m.place (none_first (message_name c m) v (none_first (message_name c m ++ v) f abc)))
      (each_some (expr_of c) (value_offences c Number) (value_there c Number) es (none_second (message_name c m ++ v) f abc))
      (peer_there q.place c.me (process_in c q.text) (none_second (message_name c m ++ v ++ f) (peer_offences c q) h)))
  of_stmt (AstStmt-F.Start t e) = level (AstStmt-F.Start t e) (λ h.
      both_some (λ k x. stmt.Start k x) (timer_number (named_in c t.text)) (expr_of c e)
      (timer_there t.place (named_in c t.text) (none_first (timer_at t.place (named_in c t.text)) _ h))
      (value_there c Number e (none_second (timer_at t.place (named_in c t.text)) _ h)))
  of_stmt (AstStmt-F.Stop t) = level (AstStmt-F.Stop t) (λ h. some_map (λ k. stmt.Stop k) (timer_number (named_in c t.text)) (timer_there t.place (named_in c t.text) h))
  of_stmt (AstStmt-F.If bs) = level (AstStmt-F.If (map (λ e. e.0) bs)) (λ h. some_map (λ x. stmt.If x) (some_of (map (branch_of c) (map (λ e. e.0) bs))) (all_some (branch_offences c) (branch_of c) bs h))
  of_stmt (AstStmt-F.Loop n p bs) = level (AstStmt-F.Loop n p (map (λ e. e.0) bs)) (λ h. some_map (λ x. stmt.Loop (unsigned_abs n) x) (some_of (map (branch_of c) (map (λ e. e.0) bs))) (all_some (branch_offences c) (branch_of c) bs (none_second (where_ (not (is_count n)) X1 p) _ h)))

  of_branch : (y : AstBranch-F S B) → KnownBranch (roll-AstBranch (map-AstBranch S B AstStmt AstBranch (λ e. e.0) (λ e. e.0) y))
  of_branch y h =
      let x = map-AstBranch S B AstStmt AstBranch (λ e. e.0) (λ e. e.0) y in
      let g : branch_level c (map-AstBranch AstStmt AstBranch (List Refusal) (List Refusal) (stmt_offences c) (branch_offences c) x) ≡ [] = sym (judged_branch x) ∙ h in
      let G : Option Branch → Type 0 = λ o. IsSome o in
      subst G (sym (named_branch x)) (both_some {C = Branch} (λ e b. record { guard = e; body = b }) (expr_of c y.guard) (some_of (map (stmt_of c) (map (λ e. e.0) y.body)))
      (value_there c Boolean y.guard (none_first (value_offences c Boolean y.guard) _ g)) (all_some (stmt_offences c) (stmt_of c) y.body (none_second (value_offences c Boolean y.guard) _ g)))

  pub stmt_known : (s : AstStmt) → KnownStmt s
  stmt_known = ind-AstStmt KnownStmt KnownBranch
      (λ x y is. let G : AstStmt-F AstStmt AstBranch → Type 0 = λ z. KnownStmt (roll-AstStmt z) in subst G is (of_stmt y))
      (λ x y is. let G : AstBranch-F AstStmt AstBranch → Type 0 = λ z. KnownBranch (roll-AstBranch z) in subst G is (of_branch y))
