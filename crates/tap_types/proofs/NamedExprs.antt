-- Every expression without an offence is named: by induction on expressions.
use Rattle.std.proofs.Common.{◌≡◌, refl, sym, ◌∙◌, ap, subst, Bool, true, false, ℕ, List, [], Option, Some, None, rules}
use Rattle.std.specs.Prelude.{IsSome, if◌then◌else◌}
use Rattle.std.specs.Option.{option_map, option_and_then}
use Rattle.tap_base.specs.declared.place.Place.{Place}
use Rattle.tap_base.specs.declared.ast.AstExpr.{AstExpr, roll-AstExpr, map-AstExpr}
use Rattle.tap_base.specs.declared.ast.AstKind.{AstKind, roll-AstKind, map-AstKind, the_lemmas}
use Rattle.tap_base.specs.declared.ast.AstKind.TheOpen.{AstKind-F, AstExpr-F}
use Rattle.tap_base.specs.declared.ast.AstKind.TheFolds.{fold-AstKind, ind-AstExpr}
use Rattle.tap_base.specs.declared.tree.Expr.{Expr}
use Rattle.tap_base.specs.declared.tree.ExprKind.TheVariants as expr
use Rattle.tap_names.specs.declared.named.Named.{Named}
use Rattle.tap_names.specs.declared.named.Named.TheVariants as named
use Rattle.tap_types.specs.ExprOffences.{Judged, Verdict, judged_in, judged_level, judged_root, name_alone, name_with_index, part_of, part_offences}
use Rattle.tap_types.specs.Scopes.{Scope, field_in, is_number, message_in, named_in}
use Rattle.tap_types.specs.Systems.{element_kind, expr_level, expr_of, name_kind, node, part_kind}
use Rattle.tap_base.proofs.ListFacts.{none_first, none_second}
use Rattle.tap_base.proofs.OptionFacts.{both_some, some_map}

by_name : (o : Option Named) (p : Place) → name_alone p o ≡ [] → IsSome (option_map (node p) (name_kind o))
by_name None p h = absurd cc
by_name (Some (named.Constant v)) p h = refl
by_name (Some (named.Input n k)) p h = refl
by_name (Some (named.Variable first k range)) p h = refl
by_name (Some (named.Array first length k range)) p h = absurd cc
by_name (Some (named.Timer t)) p h = absurd cc

by_index : (o : Option Named) (p : Place) (i : Option Expr) → name_with_index p o ≡ [] → IsSome i → IsSome (option_and_then (λ index. option_map (node p) (element_kind o index)) i)
by_index o p None h k = absurd cc
by_index None p (Some i) h k = absurd cc
by_index (Some (named.Constant v)) p (Some i) h k = absurd cc
by_index (Some (named.Input n l)) p (Some i) h k = absurd cc
by_index (Some (named.Variable first l range)) p (Some i) h k = absurd cc
by_index (Some (named.Array first length l range)) p (Some i) h k = refl
by_index (Some (named.Timer t)) p (Some i) h k = absurd cc

by_field : (b : Bool) (o : Option ℕ) (p : Place) → part_of p b o ≡ [] → IsSome (option_map (node p) (if b then option_map expr.Part o else None))
by_field false o p h = absurd cc
by_field true None p h = absurd cc
by_field true (Some k) p h = refl

by_part : (c : Scope) (p : Place) (f : List ℕ) (m : Option ℕ) → part_offences c p f m ≡ [] → IsSome (option_and_then (λ k. option_map (node p) (part_kind c k f)) m)
by_part c p f None h = absurd cc
by_part c p f (Some k) h = by_field (is_number k c.received) (field_in c k f) p h

module _ (c : Scope) where
  abbrev kind_judged : AstKind → Place → Verdict
  kind_judged = fold-AstKind (Place → Verdict) Judged (judged_level c) judged_root

  abbrev kind_named : AstKind → Place → Option Expr
  kind_named = fold-AstKind (Place → Option Expr) (Option Expr) (expr_level c) (λ e. e.kind e.place)

  abbrev KnownKind : AstKind → Type 0
  KnownKind k = (p : Place) → (kind_judged k p).offences ≡ [] → IsSome (kind_named k p)

  abbrev Known : AstExpr → Type 0
  Known e = (judged_in c e).offences ≡ [] → IsSome (expr_of c e)

  judged_roll : (x : AstKind-F AstKind AstExpr) → kind_judged (roll-AstKind x) ≡ judged_level c (map-AstKind AstKind AstExpr (Place → Verdict) Judged kind_judged (judged_in c) x)
  judged_roll x = search (rules, the_lemmas)

  named_roll : (x : AstKind-F AstKind AstExpr) → kind_named (roll-AstKind x) ≡ expr_level c (map-AstKind AstKind AstExpr (Place → Option Expr) (Option Expr) kind_named (expr_of c) x)
  named_roll x = search (rules, the_lemmas)

  level : (x : AstKind-F AstKind AstExpr) → ((p : Place) → (judged_level c (map-AstKind AstKind AstExpr (Place → Verdict) Judged kind_judged (judged_in c) x) p).offences ≡ [] → IsSome (expr_level c (map-AstKind AstKind AstExpr (Place → Option Expr) (Option Expr) kind_named (expr_of c) x) p)) → KnownKind (roll-AstKind x)
  level x f p h =
      let G : (Place → Option Expr) → Type 0 = λ g. IsSome (g p) in
      subst G (sym (named_roll x)) (f p (sym (ap (λ (g : Place → Verdict). (g p).offences) (judged_roll x)) ∙ h))

  of_kind : (y : AstKind-F ((k : AstKind) × KnownKind k) ((e : AstExpr) × Known e)) → KnownKind (roll-AstKind (map-AstKind ((k : AstKind) × KnownKind k) ((e : AstExpr) × Known e) AstKind AstExpr (λ e. e.0) (λ e. e.0) y))
  of_kind (AstKind-F.Number n) = level (AstKind-F.Number n) (λ p h. refl)
  of_kind (AstKind-F.Truth b) = level (AstKind-F.Truth b) (λ p h. refl)
  of_kind (AstKind-F.Name t) = level (AstKind-F.Name t) (λ p h. by_name (named_in c t) p h)
  of_kind (AstKind-F.Index t i) = level (AstKind-F.Index t i.0) (λ p h. by_index (named_in c t) p (expr_of c i.0) (none_first (name_with_index p (named_in c t)) _ h) (i.1 (none_first _ _ (none_second (name_with_index p (named_in c t)) _ h))))
  of_kind (AstKind-F.Part m f) = level (AstKind-F.Part m f) (λ p h. by_part c p f (message_in c m) h)
  of_kind (AstKind-F.Not e) = level (AstKind-F.Not e.0) (λ p h. some_map _ (expr_of c e.0) (e.1 (none_first _ _ h)))
  of_kind (AstKind-F.Neg e) = level (AstKind-F.Neg e.0) (λ p h. some_map _ (expr_of c e.0) (e.1 (none_first _ _ h)))
  of_kind (AstKind-F.Binary o a b) = level (AstKind-F.Binary o a.0 b.0) (λ p h. both_some (λ x y. node p (expr.Binary o x y)) (expr_of c a.0) (expr_of c b.0) (a.1 (none_first (judged_in c a.0).offences (judged_in c b.0).offences (none_first _ _ h))) (b.1 (none_second (judged_in c a.0).offences (judged_in c b.0).offences (none_first _ _ h))))

  judged_expr : (x : AstExpr-F AstKind AstExpr) → judged_in c (roll-AstExpr x) ≡ judged_root (map-AstExpr AstKind AstExpr (Place → Verdict) Judged kind_judged (judged_in c) x)
  judged_expr x = search (rules, the_lemmas)

  abbrev at_place : AstExpr-F (Place → Option Expr) (Option Expr) → Option Expr
  at_place e = e.kind e.place

  named_expr : (x : AstExpr-F AstKind AstExpr) → expr_of c (roll-AstExpr x) ≡ at_place (map-AstExpr AstKind AstExpr (Place → Option Expr) (Option Expr) kind_named (expr_of c) x)
  named_expr x = search (rules, the_lemmas)

  of_expr : (y : AstExpr-F ((k : AstKind) × KnownKind k) ((e : AstExpr) × Known e)) → Known (roll-AstExpr (map-AstExpr ((k : AstKind) × KnownKind k) ((e : AstExpr) × Known e) AstKind AstExpr (λ e. e.0) (λ e. e.0) y))
  of_expr y h =
      let x = map-AstExpr ((k : AstKind) × KnownKind k) ((e : AstExpr) × Known e) AstKind AstExpr (λ e. e.0) (λ e. e.0) y in
      let G : Option Expr → Type 0 = λ o. IsSome o in
      subst G (sym (named_expr x)) (y.kind.1 y.place (sym (ap (λ (j : Judged). j.offences) (judged_expr x)) ∙ h))

  pub known_in : (e : AstExpr) → Known e
  known_in = ind-AstExpr KnownKind Known (λ x y is. let G : AstKind-F AstKind AstExpr → Type 0 = λ z. KnownKind (roll-AstKind z) in subst G is (of_kind y)) (λ x y is. let G : AstExpr-F AstKind AstExpr → Type 0 = λ z. Known (roll-AstExpr z) in subst G is (of_expr y))

pub known : (c : Scope) (e : AstExpr) → (judged_in c e).offences ≡ [] → IsSome (expr_of c e)
known c e = known_in c e
