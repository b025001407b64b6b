-- A resolved expression without an offence is judged right.
use Rattle.std.proofs.Common.{◌≡◌, ◌+◌, ◌<◌, ℕ, ℤ, Bool, true, false, not, ◌&&◌, if◌then◌else◌, List, [], ◌++◌, length, refl, ap, sym, subst, ◌∙◌, slice_get, Option, None, Some, arith}
use Rattle.std.specs.Prelude.{IfSome, int_le, option_and_then}
use Rattle.std.specs.Option.{option_map}
use Rattle.std.proofs.lemmas.Int.{ints}
use Rattle.tap_base.specs.declared.place.Place.{Place}
use Rattle.tap_base.specs.declared.place.Range.{Range}
use Rattle.tap_base.specs.declared.refusal.RefusalCode.{RefusalCode}
use Rattle.tap_base.specs.declared.refusal.RefusalCode.TheVariants.{W2, W3, W4}
use Rattle.tap_base.specs.declared.tree.Op.{Op}
use Rattle.tap_base.specs.declared.tree.Expr.{Expr}
use Rattle.tap_base.specs.declared.tree.ExprKind.TheVariants as kind
use Rattle.tap_base.specs.Interval.{IsWithin, from_to, has_zero, index_range, negation_range, operation_range, truth_range}
use Rattle.tap_base.specs.Lists.{Each}
use Rattle.tap_base.specs.Offences.{offence, where_}
use Rattle.tap_base.specs.Parts.{leaves}
use Rattle.tap_base.specs.Resolved.{IsResolvedExpr, IsThere}
use Rattle.tap_base.specs.Scope.{Scope}
use Rattle.tap_base.proofs.ListFacts.{both_empty, each_append, each_split, element_at}
use Rattle.sound_values.specs.Indexes.{IsWithinArray, Seen, interval_by, seen}
use Rattle.sound_values.specs.Sound.{IsJudged}
use Rattle.tap_base.proofs.ExprInduction.{expr, of_expr}
use Rattle.sound_values.proofs.ExprOpen as open_
use Rattle.sound_values.proofs.ExprOpen.{interval_in}
use Rattle.sound_values.proofs.Values.{sees_interval}
use Rattle.sound_bodies.specs.Judged.{FitsRange}
use Rattle.width_check.specs.ExprOffences.{Judged, bounds_offences, expr_offences, is_division, judged, negation_offences, operation_interval, operation_offences, where_none, where_wider}
use Rattle.checked_systems.proofs.Open as judge_

not_wider : (a range : Range) (c : RefusalCode) (p : Place) → where_wider (Some a) range c p ≡ [] → IsWithin a range
not_wider a range c p e = by_test (int_le range.lo a.lo) (int_le a.hi range.hi) refl refl e where
  by_test : (s t : Bool) → int_le range.lo a.lo ≡ s → int_le a.hi range.hi ≡ t → where_ (not (s && t)) c p ≡ [] → IsWithin a range
  by_test true true l r f = (grind (arith, ints), grind (arith, ints))
  by_test true false l r f = cc
  by_test false t l r f = cc

has_interval : (o : Option Range) (c : RefusalCode) (p : Place) → where_none o c p ≡ [] → (a : Range) × (o ≡ Some a)
has_interval None c p e = cc
has_interval (Some a) c p e = (a, refl)

operation_ranged : (op : Op) (a b : Range) (d p : Place) → bounds_offences op a b d p ≡ [] → (c : Range) × (operation_range op a b ≡ Some c)
operation_ranged op a b d p e = by_test (is_division op && has_zero b) e where
  by_test : (t : Bool) → (if t then offence W2 d else where_none (operation_range op a b) W4 p) ≡ [] → (c : Range) × (operation_range op a b ≡ Some c)
  by_test true f = cc
  by_test false f = has_interval (operation_range op a b) W4 p f

module _ (s : Scope) where
  abbrev JudgesInterval : Expr → Type 0
  JudgesInterval e = (judged s e).interval ≡ interval_in s e

  abbrev told : Judged → Option Range
  told j = j.interval

  judged_interval : (e : Expr) → JudgesInterval e
  judged_interval = of_expr JudgesInterval
      (λ n p. ap told (judge_.judged_number p s n) ∙ sym (open_.interval_number p s n))
      (λ k p. ap told (judge_.judged_cell p s k) ∙ sym (open_.interval_cell p s k))
      (λ first length i p h. ap told (judge_.judged_element p s first length i) ∙ ap (option_and_then (λ _. slice_get s.cells first)) h ∙ sym (open_.interval_element p s first length i))
      (λ k p. ap told (judge_.judged_input p s k) ∙ sym (open_.interval_input p s k))
      (λ k p. ap told (judge_.judged_part p s k) ∙ sym (open_.interval_part p s k))
      (λ a p h. ap told (judge_.judged_not p s a) ∙ ap (option_map (λ _. truth_range)) h ∙ sym (open_.interval_not p s a))
      (λ a p h. ap told (judge_.judged_neg p s a) ∙ ap (option_and_then negation_range) h ∙ sym (open_.interval_neg p s a))
      (λ op a b p h k. ap told (judge_.judged_binary p s op a b) ∙ ap (λ o. operation_interval op o (judged s b).interval) h ∙ ap (operation_interval op (interval_in s a)) k ∙ sym (open_.interval_binary p s op a b))

  abbrev Right : Expr → Type 0
  Right e = (range : Range) × IsJudged s e range

  abbrev Holds : Expr → Type 0
  Holds e = IsResolvedExpr s e → expr_offences s e ≡ [] → Right e

  abbrev Indexed : Seen → Type 0
  Indexed z = Each IsWithinArray (z.indexes s)

  of_leaf : (e : Expr) (ranges : List Range) (k : ℕ) → k < length ranges → interval_in s e ≡ slice_get ranges k → Indexed (seen e) → Right e
  of_leaf e ranges k l i indexes = let r = element_at ranges k l in (r.0, record { interval = i ∙ r.1; indexes = indexes })

  number_holds : (n : ℤ) (p : Place) → Holds (expr (kind.Number n) p)
  number_holds n p h e =
      let fit = (subst (Each (IsThere s)) (open_.leaves_number p n) h).0 in
      (from_to n n, record { interval = open_.interval_number p s n ∙ rw fit refl; indexes = subst Indexed (sym (open_.seen_number p n)) tt })

  cell_holds : (k : ℕ) (p : Place) → Holds (expr (kind.Cell k) p)
  cell_holds k p h e =
      of_leaf (expr (kind.Cell k) p) s.cells k (subst (Each (IsThere s)) (open_.leaves_cell p k) h).0 (open_.interval_cell p s k) (subst Indexed (sym (open_.seen_cell p k)) tt)

  input_holds : (k : ℕ) (p : Place) → Holds (expr (kind.Input k) p)
  input_holds k p h e =
      of_leaf (expr (kind.Input k) p) s.inputs k (subst (Each (IsThere s)) (open_.leaves_input p k) h).0 (open_.interval_input p s k) (subst Indexed (sym (open_.seen_input p k)) tt)

  part_holds : (k : ℕ) (p : Place) → Holds (expr (kind.Part k) p)
  part_holds k p h e =
      of_leaf (expr (kind.Part k) p) s.fields k (subst (Each (IsThere s)) (open_.leaves_part p k) h).0 (open_.interval_part p s k) (subst Indexed (sym (open_.seen_part p k)) tt)

  -- an interval that is not refused is within the range
  pub inside : (e : Expr) (range wanted : Range) (c : RefusalCode) (p : Place) → IsJudged s e range → where_wider (judged s e).interval wanted c p ≡ [] → IsWithin range wanted
  inside e range wanted c p j none = not_wider range wanted c p (subst (λ o. where_wider o wanted c p ≡ []) (judged_interval e ∙ j.interval) none)

  element_holds : (first count : ℕ) (i : Expr) (p : Place) → Holds i → Holds (expr (kind.Element first count i) p)
  element_holds first count i p holds h e =
      let l = subst (Each (IsThere s)) (open_.leaves_element p first count i) h in
      let none = both_empty (judged s i).offences (where_wider (judged s i).interval (index_range count) W3 (judged s i).place) (sym (ap (λ j. j.offences) (judge_.judged_element p s first count i)) ∙ e) in
      let part = holds l.1 none.0 in
      let within = inside i part.0 (index_range count) W3 (judged s i).place part.1 none.1 in
      let start : first + 0 ≡ first = omega arith in
      let array = l.0.1 in
      let ranged : slice_get s.cells first ≡ Some l.0.0 = subst (λ k. slice_get s.cells k ≡ Some l.0.0) start (array.each 0 (omega (arith, array.some))) in
      let own : IfSome (interval_by s (seen i).interval) (λ r. IsWithin r (index_range count)) =
      subst (λ o. IfSome o (λ r. IsWithin r (index_range count))) (sym (sees_interval s i ∙ part.1.interval)) within in (
        l.0.0,
        record {
          interval = open_.interval_element p s first count i ∙ ap (option_and_then (λ _. slice_get s.cells first)) part.1.interval ∙ ranged;
          indexes = subst Indexed (sym (open_.seen_element p first count i)) (own, part.1.indexes);
        },
      )

  not_holds : (a : Expr) (p : Place) → Holds a → Holds (expr (kind.Not a) p)
  not_holds a p holds h e =
      let part = holds (subst (Each (IsThere s)) (open_.leaves_not p a) h) (sym (ap (λ j. j.offences) (judge_.judged_not p s a)) ∙ e) in
      (truth_range, record { interval = open_.interval_not p s a ∙ ap (option_map (λ _. truth_range)) part.1.interval; indexes = subst Indexed (sym (open_.seen_not p a)) part.1.indexes })

  neg_holds : (a : Expr) (p : Place) → Holds a → Holds (expr (kind.Neg a) p)
  neg_holds a p holds h e =
      let none = both_empty (judged s a).offences (negation_offences (judged s a).interval p) (sym (ap (λ j. j.offences) (judge_.judged_neg p s a)) ∙ e) in
      let part = holds (subst (Each (IsThere s)) (open_.leaves_neg p a) h) none.0 in
      let ranged = has_interval (negation_range part.0) W4 p (subst (λ o. negation_offences o p ≡ []) (judged_interval a ∙ part.1.interval) none.1) in (
        ranged.0,
        record {
          interval = open_.interval_neg p s a ∙ ap (option_and_then negation_range) part.1.interval ∙ ranged.1;
          indexes = subst Indexed (sym (open_.seen_neg p a)) part.1.indexes;
        },
      )

  binary_holds : (op : Op) (a b : Expr) (p : Place) → Holds a → Holds b → Holds (expr (kind.Binary op a b) p)
  binary_holds op a b p holds_a holds_b h e =
      let l = each_split (IsThere s) (leaves a) (leaves b) (subst (Each (IsThere s)) (open_.leaves_binary p op a b) h) in
      let own = operation_offences op (judged s a).interval (judged s b).interval (judged s b).place p in
      let none = both_empty ((judged s a).offences ++ (judged s b).offences) own (sym (ap (λ j. j.offences) (judge_.judged_binary p s op a b)) ∙ e) in
      let parts = both_empty (judged s a).offences (judged s b).offences none.0 in
      let left = holds_a l.0 parts.0 in
      let right = holds_b l.1 parts.1 in
      let f = judged_interval a ∙ left.1.interval in
      let g = judged_interval b ∙ right.1.interval in
      let ranged = operation_ranged op left.0 right.0 (judged s b).place p
      (subst (λ o. operation_offences op (Some left.0) o (judged s b).place p ≡ []) g (subst (λ o. operation_offences op o (judged s b).interval (judged s b).place p ≡ []) f none.1)) in (
        ranged.0,
        record {
          interval = open_.interval_binary p s op a b ∙ ap (λ o. operation_interval op o (interval_in s b)) left.1.interval ∙ ap (operation_interval op (Some left.0)) right.1.interval ∙ ranged.1;
          indexes = subst Indexed (sym (open_.seen_binary p op a b)) (each_append IsWithinArray ((seen a).indexes s) ((seen b).indexes s) left.1.indexes right.1.indexes);
        },
      )

  pub right : (e : Expr) → Holds e
  right = of_expr Holds number_holds cell_holds element_holds input_holds part_holds not_holds neg_holds binary_holds

  -- the same, with the range that is wanted
  pub fits : (e : Expr) (wanted : Range) (c : RefusalCode) (p : Place) → IsResolvedExpr s e → expr_offences s e ≡ [] → where_wider (judged s e).interval wanted c p ≡ [] → FitsRange s e wanted
  fits e wanted c p h none wide =
      let it = right e h none in
      record { range = it.0; judged = it.1; within = inside e it.0 wanted c p it.1 wide }
