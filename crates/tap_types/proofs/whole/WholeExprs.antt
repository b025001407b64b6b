-- An expression without an offence names one in which all is there: by induction on expressions.
use Rattle.std.proofs.Common.{◌≡◌, ℕ, ◌<◌, ℤ, pos, Bool, true, false, List, [], ◌++◌, Option, Some, None, length, refl, ap, sym, ◌∙◌, subst, arith, rules}
use Rattle.std.specs.Prelude.{if◌then◌else◌, option_and_then}
use Rattle.std.specs.Option.{option_map}
use Rattle.std.proofs.lemmas.Int.{ints}
use Rattle.std.proofs.lemmas.Option.{same_Some}
use Rattle.tap_base.specs.declared.place.Place.{Place}
use Rattle.tap_base.specs.declared.ast.AstExpr.{AstExpr, roll-AstExpr, map-AstExpr}
use Rattle.tap_base.specs.declared.ast.AstKind.{AstKind, roll-AstKind, map-AstKind, the_lemmas}
use Rattle.tap_base.specs.declared.ast.AstKind.TheOpen.{AstKind-F, AstExpr-F}
use Rattle.tap_base.specs.declared.ast.AstKind.TheFolds.{fold-AstKind, ind-AstExpr}
use Rattle.tap_base.specs.declared.tree.Expr.{Expr}
use Rattle.tap_base.specs.declared.tree.ExprKind.TheVariants as expr
use Rattle.tap_base.specs.Interval.{IsWithin, from_to, truth_range}
use Rattle.tap_base.specs.Lists.{Each}
use Rattle.tap_base.proofs.OptionFacts.{bound, mapped}
use Rattle.tap_names.specs.declared.named.Kind.{Kind}
use Rattle.tap_names.specs.declared.named.Kind.TheVariants.{Boolean, Number}
use Rattle.tap_names.specs.declared.named.Named.{Named}
use Rattle.tap_names.specs.declared.named.Named.TheVariants as named
use Rattle.tap_names.specs.Kinds.{given_by, taken_by}
use Rattle.tap_types.specs.ExprOffences.{Judged, Verdict, due, judged_in, judged_level, judged_root, kind_of_element, kind_of_name, name_alone, name_with_index, operand_offences, part_of, part_offences, value_offences, wrong_kind}
use Rattle.tap_types.specs.Given.{IsFit, NumbersFit}
use Rattle.tap_types.specs.Pieces.{numbers, numbers_step}
use Rattle.tap_base.specs.Resolved.{IsResolvedExpr}
use Rattle.tap_base.specs.Scope.{Scope as Reach}
use Rattle.tap_types.specs.Scopes.{Scope, field_in, is_number, message_in, named_in}
use Rattle.tap_types.specs.Systems.{element_kind, expr_level, expr_of, name_kind, node, part_kind, truth_number}
use Rattle.tap_base.specs.Truths.{IsTest, StandsOnTruths}
use Rattle.tap_types.proofs.whole.GoodExprs.{Good, binary_good, boolean_kind, cell_good, element_good, input_good, neg_good, not_good, number_good, part_good}
use Rattle.tap_types.proofs.whole.Standing.{Stands, StandsFor}
use Rattle.tap_base.proofs.ListFacts.{each_split, none_first, none_second}

one_is_truth : IsWithin (from_to (pos 1) (pos 1)) truth_range
one_is_truth = (omega (arith, ints), omega (arith, ints))

zero_is_truth : IsWithin (from_to (pos 0) (pos 0)) truth_range
zero_is_truth = (omega (arith, ints), omega (arith, ints))

module _ (s : Reach) (timers : ℕ) where
  by_truth : (b : Bool) (p : Place) → Good s (node p (expr.Number (truth_number b))) (Some Boolean)
  by_truth true p = number_good s p (pos 1) Boolean refl (λ q. one_is_truth)
  by_truth false p = number_good s p (pos 0) Boolean refl (λ q. zero_is_truth)

  by_name : (o : Option Named) (p : Place) (x : Expr) → StandsFor s timers o → name_alone p o ≡ [] → option_map (node p) (name_kind o) ≡ Some x → Good s x (kind_of_name o)
  by_name None p x h a e = absurd cc
  by_name (Some (named.Constant v)) p x h a e = let is = same_Some (node p (expr.Number v)) x e in subst (λ z. Good s z (Some Number)) is (number_good s p v Number h (λ q. absurd cc))
  by_name (Some (named.Input n k)) p x h a e = let is = same_Some (node p (expr.Input n)) x e in subst (λ z. Good s z (Some k)) is (input_good s p n k h.0 h.1 h.2)
  by_name (Some (named.Variable first k range)) p x h a e = let is = same_Some (node p (expr.Cell first)) x e in subst (λ z. Good s z (Some k)) is (cell_good s p first k range h.0 h.1)
  by_name (Some (named.Array first count k range)) p x h a e = absurd cc
  by_name (Some (named.Timer t)) p x h a e = absurd cc

  by_index : (o : Option Named) (p : Place) (i x : Expr) (l : Option Kind) → StandsFor s timers o → name_with_index p o ≡ [] → Good s i l → option_map (node p) (element_kind o i) ≡ Some x → Good s x (kind_of_element o)
  by_index None p i x l h a g e = absurd cc
  by_index (Some (named.Constant v)) p i x l h a g e = absurd cc
  by_index (Some (named.Input n k)) p i x l h a g e = absurd cc
  by_index (Some (named.Variable first k range)) p i x l h a g e = absurd cc
  by_index (Some (named.Array first count k range)) p i x l h a g e = let is = same_Some (node p (expr.Element first count i)) x e in subst (λ z. Good s z (Some k)) is (element_good s p first count k l range i h.0 h.1 g)
  by_index (Some (named.Timer t)) p i x l h a g e = absurd cc

  by_field : (b : Bool) (o : Option ℕ) (p : Place) (x : Expr) → (b ≡ true → (k : ℕ) → o ≡ Some k → k < length s.fields) → part_of p b o ≡ [] → option_map (node p) (if b then option_map expr.Part o else None) ≡ Some x → Good s x (Some Number)
  by_field false o p x h a e = absurd cc
  by_field true None p x h a e = absurd cc
  by_field true (Some k) p x h a e = let is = same_Some (node p (expr.Part k)) x e in subst (λ z. Good s z (Some Number)) is (part_good s p k (h refl k refl))

module _ (c : Scope) (s : Reach) (timers : ℕ) (h : Stands c s timers) where
  abbrev kind_judged : AstKind → Place → Verdict
  kind_judged = fold-AstKind (Place → Verdict) Judged (judged_level c) judged_root

  abbrev kind_named : AstKind → Place → Option Expr
  kind_named = fold-AstKind (Place → Option Expr) (Option Expr) (expr_level c) (λ e. e.kind e.place)

  abbrev kind_numbers : AstKind → List ℤ
  kind_numbers = fold-AstKind (List ℤ) (List ℤ) numbers_step (λ e. e.kind)

  abbrev GoodKind : AstKind → Type 0
  GoodKind k = (p : Place) (x : Expr) → Each IsFit (kind_numbers k) → (kind_judged k p).offences ≡ [] → kind_named k p ≡ Some x → Good s x (kind_judged k p).kind

  abbrev GoodExpr : AstExpr → Type 0
  GoodExpr e = (x : Expr) → Each IsFit (numbers e) → (judged_in c e).offences ≡ [] → expr_of c e ≡ Some x → Good s x (judged_in c e).kind

  judged_roll : (x : AstKind-F AstKind AstExpr) → kind_judged (roll-AstKind x) ≡ judged_level c (map-AstKind AstKind AstExpr (Place → Verdict) Judged kind_judged (judged_in c) x)
  judged_roll x = search (rules, the_lemmas)

  named_roll : (x : AstKind-F AstKind AstExpr) → kind_named (roll-AstKind x) ≡ expr_level c (map-AstKind AstKind AstExpr (Place → Option Expr) (Option Expr) kind_named (expr_of c) x)
  named_roll x = search (rules, the_lemmas)

  numbers_roll : (x : AstKind-F AstKind AstExpr) → kind_numbers (roll-AstKind x) ≡ numbers_step (map-AstKind AstKind AstExpr (List ℤ) (List ℤ) kind_numbers numbers x)
  numbers_roll x = search (rules, the_lemmas)

  abbrev GoodLevel : AstKind-F AstKind AstExpr → Type 0
  GoodLevel x = (p : Place) (y : Expr) → Each IsFit (numbers_step (map-AstKind AstKind AstExpr (List ℤ) (List ℤ) kind_numbers numbers x))
      → (judged_level c (map-AstKind AstKind AstExpr (Place → Verdict) Judged kind_judged (judged_in c) x) p).offences ≡ []
      → expr_level c (map-AstKind AstKind AstExpr (Place → Option Expr) (Option Expr) kind_named (expr_of c) x) p ≡ Some y
      → Good s y (judged_level c (map-AstKind AstKind AstExpr (Place → Verdict) Judged kind_judged (judged_in c) x) p).kind

  level : (x : AstKind-F AstKind AstExpr) → GoodLevel x → GoodKind (roll-AstKind x)
  level x f p y n o e =
      let K : (Place → Verdict) → Type 0 = λ g. Good s y (g p).kind in
      let fit = subst (Each IsFit) (numbers_roll x) n in
      let none = sym (ap (λ (g : Place → Verdict). (g p).offences) (judged_roll x)) ∙ o in
      let is = sym (ap (λ (g : Place → Option Expr). g p) (named_roll x)) ∙ e in
      subst K (sym (judged_roll x)) (f p y fit none is)

  of_kind : (y : AstKind-F ((k : AstKind) × GoodKind k) ((e : AstExpr) × GoodExpr e)) → GoodKind (roll-AstKind (map-AstKind ((k : AstKind) × GoodKind k) ((e : AstExpr) × GoodExpr e) AstKind AstExpr (λ e. e.0) (λ e. e.0) y))
  of_kind (AstKind-F.Number n) = level (AstKind-F.Number n) (λ p x f o e. let is = same_Some (node p (expr.Number n)) x e in subst (λ z. Good s z (Some Number)) is (number_good s p n Number f.0 (λ q. absurd cc)))
  of_kind (AstKind-F.Truth b) = level (AstKind-F.Truth b) (λ p x f o e. let is = same_Some (node p (expr.Number (truth_number b))) x e in subst (λ z. Good s z (Some Boolean)) is (by_truth s timers b p))
  of_kind (AstKind-F.Name t) = level (AstKind-F.Name t) (λ p x f o e. by_name s timers (named_in c t) p x (h.names t) o e)
  of_kind (AstKind-F.Index t i) = level (AstKind-F.Index t i.0) (λ p x f o e.
      let b = bound (λ index. option_map (node p) (element_kind (named_in c t) index)) (expr_of c i.0) x e in
      let g = i.1 b.0 f (none_first (judged_in c i.0).offences (wrong_kind Number (judged_in c i.0)) (none_second (name_with_index p (named_in c t)) (due Number (judged_in c i.0)) o)) b.1 in
      by_index s timers (named_in c t) p b.0 x (judged_in c i.0).kind (h.names t) (none_first (name_with_index p (named_in c t)) (due Number (judged_in c i.0)) o) g b.2)
  of_kind (AstKind-F.Part m f) = level (AstKind-F.Part m f) (λ p x n o e. by_part p f x (message_in c m) o e)
    where
      by_part : (p : Place) (g : List ℕ) (x : Expr) (m : Option ℕ) → part_offences c p g m ≡ [] → option_and_then (λ k. option_map (node p) (part_kind c k g)) m ≡ Some x → Good s x (Some Number)
      by_part p g x None o e = absurd cc
      by_part p g x (Some k) o e = by_field s timers (is_number k c.received) (field_in c k g) p x (λ b n q. h.fields k n g b q) o e
  of_kind (AstKind-F.Not a) = level (AstKind-F.Not a.0) (λ p x f o e.
      let m = mapped (λ z. node p (expr.Not z)) (expr_of c a.0) x e in
      let j = judged_in c a.0 in
      let g = a.1 m.0 f (none_first j.offences (wrong_kind Boolean j) o) m.1 in
      let b = boolean_kind j.kind j.place g.known (none_second j.offences (wrong_kind Boolean j) o) in
      subst (λ z. Good s z (Some Boolean)) m.2 (not_good s p m.0 j.kind b g))
  of_kind (AstKind-F.Neg a) = level (AstKind-F.Neg a.0) (λ p x f o e.
      let m = mapped (λ z. node p (expr.Neg z)) (expr_of c a.0) x e in
      let j = judged_in c a.0 in
      let g = a.1 m.0 f (none_first j.offences (wrong_kind Number j) o) m.1 in
      subst (λ z. Good s z (Some Number)) m.2 (neg_good s p m.0 j.kind g))
  of_kind (AstKind-F.Binary o a b) = level (AstKind-F.Binary o a.0 b.0) (λ p x f n e.
      let l = bound (λ u. option_and_then (λ v. Some (node p (expr.Binary o u v))) (expr_of c b.0)) (expr_of c a.0) x e in
      let r = bound (λ v. Some (node p (expr.Binary o l.0 v))) (expr_of c b.0) x l.2 in
      let is = same_Some (node p (expr.Binary o l.0 r.0)) x r.2 in
      let i = judged_in c a.0 in
      let j = judged_in c b.0 in
      let fit = each_split IsFit (numbers a.0) (numbers b.0) f in
      let both = none_first (i.offences ++ j.offences) (operand_offences (taken_by o) i.place i.kind j.place j.kind) n in
      let left = a.1 l.0 fit.0 (none_first i.offences j.offences both) l.1 in
      let right = b.1 r.0 fit.1 (none_second i.offences j.offences both) r.1 in
      subst (λ z. Good s z (Some (given_by o))) is (binary_good s p o l.0 r.0 i.kind j.kind i.place j.place left right (none_second (i.offences ++ j.offences) (operand_offences (taken_by o) i.place i.kind j.place j.kind) n)))

  judged_expr : (x : AstExpr-F AstKind AstExpr) → judged_in c (roll-AstExpr x) ≡ judged_root (map-AstExpr AstKind AstExpr (Place → Verdict) Judged kind_judged (judged_in c) x)
  judged_expr x = search (rules, the_lemmas)

  abbrev at_place : AstExpr-F (Place → Option Expr) (Option Expr) → Option Expr
  at_place e = e.kind e.place

  named_expr : (x : AstExpr-F AstKind AstExpr) → expr_of c (roll-AstExpr x) ≡ at_place (map-AstExpr AstKind AstExpr (Place → Option Expr) (Option Expr) kind_named (expr_of c) x)
  named_expr x = search (rules, the_lemmas)

  abbrev of_its_kind : AstExpr-F (List ℤ) (List ℤ) → List ℤ
  of_its_kind e = e.kind

  numbers_expr : (x : AstExpr-F AstKind AstExpr) → numbers (roll-AstExpr x) ≡ of_its_kind (map-AstExpr AstKind AstExpr (List ℤ) (List ℤ) kind_numbers numbers x)
  numbers_expr x = search (rules, the_lemmas)

  of_expr : (y : AstExpr-F ((k : AstKind) × GoodKind k) ((e : AstExpr) × GoodExpr e)) → GoodExpr (roll-AstExpr (map-AstExpr ((k : AstKind) × GoodKind k) ((e : AstExpr) × GoodExpr e) AstKind AstExpr (λ e. e.0) (λ e. e.0) y))
  of_expr y x f o e =
      let z = map-AstExpr ((k : AstKind) × GoodKind k) ((e : AstExpr) × GoodExpr e) AstKind AstExpr (λ e. e.0) (λ e. e.0) y in
      let K : Judged → Type 0 = λ j. Good s x j.kind in
      let fit = subst (Each IsFit) (numbers_expr z) f in
      let none = sym (ap (λ (j : Judged). j.offences) (judged_expr z)) ∙ o in
      let is = sym (named_expr z) ∙ e in
      subst K (sym (judged_expr z)) (y.kind.1 y.place x fit none is)

  expr_good : (e : AstExpr) → GoodExpr e
  expr_good = ind-AstExpr GoodKind GoodExpr (λ x y is. let G : AstKind-F AstKind AstExpr → Type 0 = λ z. GoodKind (roll-AstKind z) in subst G is (of_kind y)) (λ x y is. let G : AstExpr-F AstKind AstExpr → Type 0 = λ z. GoodExpr (roll-AstExpr z) in subst G is (of_expr y))

  -- ---- what is said of it above

  pub good_expr : (e : AstExpr) (x : Expr) → NumbersFit e → (judged_in c e).offences ≡ [] → expr_of c e ≡ Some x → IsResolvedExpr s x × StandsOnTruths s x
  good_expr e x f o is = let g = expr_good e x f o is in (g.there, g.tested)

  pub good_value : (k : Kind) (e : AstExpr) (x : Expr) → NumbersFit e → value_offences c k e ≡ [] → expr_of c e ≡ Some x → IsResolvedExpr s x × StandsOnTruths s x
  good_value k e x f o is = good_expr e x f (none_first (judged_in c e).offences (wrong_kind k (judged_in c e)) o) is

  pub good_test : (e : AstExpr) (x : Expr) → NumbersFit e → value_offences c Boolean e ≡ [] → expr_of c e ≡ Some x → IsResolvedExpr s x × IsTest s x
  good_test e x f o is =
      let j = judged_in c e in
      let g = expr_good e x f (none_first j.offences (wrong_kind Boolean j) o) is in
      let b = boolean_kind j.kind j.place g.known (none_second j.offences (wrong_kind Boolean j) o) in
      (g.there, (g.says b, g.tested))
