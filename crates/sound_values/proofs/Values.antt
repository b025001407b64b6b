-- Each expression that is judged right is sound: by one induction.
use Rattle.std.proofs.Common.{◌≡◌, ◌<◌, ◌+◌, ℕ, ℤ, pos, negsuc, unsigned_abs, true, not, ◌&&◌, List, length, refl, ap, sym, subst, ◌∙◌, slice_get, Option, Some, arith}
use Rattle.std.specs.Prelude.{IfSome, ◌≤ℤ◌, ◌-ℤ◌, int_le, int_lt, neg_ℤ, option_and_then}
use Rattle.std.specs.Int.Signed.{≤ℤ_refl}
use Rattle.std.specs.Option.{option_map}
use Rattle.std.proofs.lemmas.Int.{ints}
use Rattle.std.proofs.lemmas.Option.{cond_some, get_or_from_slice_get, same_Some, slice_get_within}
use Rattle.tap_base.specs.declared.place.Place.{Place}
use Rattle.tap_base.specs.declared.place.Range.{Range}
use Rattle.tap_base.specs.declared.tree.Op.{Op}
use Rattle.tap_base.specs.declared.tree.Expr.{Expr}
use Rattle.tap_base.specs.declared.tree.ExprKind.TheVariants as kind
use Rattle.tap_base.specs.Interval.{IsIn, IsWithin, bounded, fits, from_to, index_range, negation_range, operation_range, truth_range}
use Rattle.tap_base.specs.Lists.{Each}
use Rattle.tap_base.specs.Option.{◌>>=◌, provided}
use Rattle.tap_base.specs.Parts.{leaves}
use Rattle.tap_base.specs.Ranges.{AreAllIn}
use Rattle.tap_base.specs.Resolved.{IsArray, IsResolvedExpr, IsThere}
use Rattle.tap_base.specs.Scope.{Scope}
use Rattle.tap_base.proofs.ListFacts.{both_at, each_split, element_at}
use Rattle.tap_base.proofs.OptionFacts.{bound, mapped}
use Rattle.tap_exec.specs.Computed.{applied, computed, negated, element as element_computed}
use Rattle.tap_exec.specs.Value.{at, element, is_true, operation, truth, value_of}
use Rattle.sound_values.specs.Indexes.{IsWithinArray, Seen, interval_by, seen}
use Rattle.sound_values.specs.Sound.{AreRead, IsJudged, IsSound}
use Rattle.tap_base.proofs.ExprInduction.{expr, of_expr}
use Rattle.sound_values.proofs.ExprOpen as open_
use Rattle.sound_values.proofs.ExprOpen.{interval_in, operation_interval}
use Rattle.sound_values.proofs.Operations.{operation_does, negation_does, not_does}

-- ---- lists

-- the value at a place is there, and within the range
record ValueAt (values : List ℤ) (k : ℕ) (range : Range) : Type 0 where
  valued : slice_get values k ≡ Some (at values k)
  within : IsIn (at values k) range

value_at : (ranges : List Range) (values : List ℤ) (k : ℕ) (range : Range) → AreAllIn ranges values → slice_get ranges k ≡ Some range → ValueAt values k range
value_at ranges values k range h e =
    let l : k < length values = omega (arith, h.counted, slice_get_within ranges k range e) in
    let v = element_at values k l in
    let is : at values k ≡ v.0 = get_or_from_slice_get values k v.0 (pos 0) v.1 in
    record {
      valued = v.1 ∙ ap Some (sym is);
      within = subst (λ x. IsIn x range) (sym is) (both_at (λ range x. IsIn x range) ranges values k range v.0 h.within e v.1);
    }

-- an index within an array finds its element
element_there : (cells : List ℤ) (first count : ℕ) (x : ℤ) → pos 0 ≤ℤ x → x ≤ℤ (pos count -ℤ pos 1)
    → (element cells first count x ≡ at cells (first + unsigned_abs x)) × (element_computed cells first count x ≡ slice_get cells (first + unsigned_abs x)) × (unsigned_abs x < count)
element_there cells first count (pos n) a c =
    let low : int_le (pos 0) (pos n) ≡ true = grind (arith, ints) in
    let high : int_lt (pos n) (pos count) ≡ true = grind (arith, ints) in
    (rw (low, high) refl, rw (low, high) refl, omega (arith, ints))
element_there cells first count (negsuc n) a c = absurd (omega (arith, ints))

-- ---- what is seen is the interval

module _ (s : Scope) where
  abbrev SeesInterval : Expr → Type 0
  SeesInterval e = interval_by s (seen e).interval ≡ interval_in s e

  abbrev seen_of : Seen → Option Range
  seen_of z = interval_by s z.interval

  pub sees_interval : (e : Expr) → SeesInterval e
  sees_interval = of_expr SeesInterval
      (λ n p. ap seen_of (open_.seen_number p n) ∙ sym (open_.interval_number p s n))
      (λ k p. ap seen_of (open_.seen_cell p k) ∙ sym (open_.interval_cell p s k))
      (λ first count i p h. ap seen_of (open_.seen_element p first count i) ∙ ap (option_and_then (λ _. slice_get s.cells first)) h ∙ sym (open_.interval_element p s first count i))
      (λ k p. ap seen_of (open_.seen_input p k) ∙ sym (open_.interval_input p s k))
      (λ k p. ap seen_of (open_.seen_part p k) ∙ sym (open_.interval_part p s k))
      (λ a p h. ap seen_of (open_.seen_not p a) ∙ ap (option_map (λ _. truth_range)) h ∙ sym (open_.interval_not p s a))
      (λ a p h. ap seen_of (open_.seen_neg p a) ∙ ap (option_and_then negation_range) h ∙ sym (open_.interval_neg p s a))
      (λ op a b p h k. ap seen_of (open_.seen_binary p op a b) ∙ ap (λ o. operation_interval op o (interval_by s (seen b).interval)) h ∙ ap (operation_interval op (interval_in s a)) k ∙ sym (open_.interval_binary p s op a b))

  -- ---- what is seen of a part

  abbrev Indexed : Seen → Type 0
  Indexed z = Each IsWithinArray (z.indexes s)

-- ---- values

module _ (s : Scope) (cells inputs received : List ℤ) (read : AreRead s cells inputs received) where
  abbrev Holds : Expr → Type 0
  Holds e = (range : Range) → IsResolvedExpr s e → IsJudged s e range → IsSound s cells inputs received e range

  of_leaf : (e : Expr) (ranges : List Range) (values : List ℤ) (k : ℕ) (range : Range) → AreAllIn ranges values → interval_in s e ≡ Some range
      → interval_in s e ≡ slice_get ranges k → value_of e cells inputs received ≡ at values k → computed e cells inputs received ≡ slice_get values k
      → IsSound s cells inputs received e range
  of_leaf e ranges values k range all given i v c =
      let found = value_at ranges values k range all (sym i ∙ given) in
      record {
        within = subst (λ y. IsIn y range) (sym v) found.within;
        computes = c ∙ found.valued ∙ ap Some (sym v);
      }

  number_holds : (n : ℤ) (p : Place) → Holds (expr (kind.Number n) p)
  number_holds n p range h j =
      let v = open_.value_number p cells inputs received n in
      let i : bounded n n ≡ Some range = sym (open_.interval_number p s n) ∙ j.interval in
      let itself : IsIn n range = subst (IsIn n) (cond_some (fits n && fits n) (from_to n n) range i).1 (≤ℤ_refl n, ≤ℤ_refl n) in
      record {
        within = subst (λ y. IsIn y range) (sym v) itself;
        computes = open_.computed_number p cells inputs received n ∙ ap Some (sym v);
      }

  cell_holds : (k : ℕ) (p : Place) → Holds (expr (kind.Cell k) p)
  cell_holds k p range h j =
      of_leaf (expr (kind.Cell k) p) s.cells cells k range read.of_cells j.interval
      (open_.interval_cell p s k) (open_.value_cell p cells inputs received k) (open_.computed_cell p cells inputs received k)

  input_holds : (k : ℕ) (p : Place) → Holds (expr (kind.Input k) p)
  input_holds k p range h j =
      of_leaf (expr (kind.Input k) p) s.inputs inputs k range read.of_inputs j.interval
      (open_.interval_input p s k) (open_.value_input p cells inputs received k) (open_.computed_input p cells inputs received k)

  part_holds : (k : ℕ) (p : Place) → Holds (expr (kind.Part k) p)
  part_holds k p range h j =
      of_leaf (expr (kind.Part k) p) s.fields received k range read.of_received j.interval
      (open_.interval_part p s k) (open_.value_part p cells inputs received k) (open_.computed_part p cells inputs received k)

  element_holds : (first count : ℕ) (i : Expr) (p : Place) → Holds i → Holds (expr (kind.Element first count i) p)
  element_holds first count i p holds range h j =
      let l = subst (Each (IsThere s)) (open_.leaves_element p first count i) h in
      let array : IsArray s.cells first count l.0.0 = l.0.1 in
      let parts = bound (λ (_ : Range). slice_get s.cells first) (interval_in s i) range (sym (open_.interval_element p s first count i) ∙ j.interval) in
      let indexes = subst (Indexed s) (open_.seen_element p first count i) j.indexes in
      let inside : IsWithin parts.0 (index_range count) = subst (λ o. IfSome o (λ r. IsWithin r (index_range count))) (sees_interval s i ∙ parts.1) indexes.0 in
      let sound = holds parts.0 l.1 (record { interval = parts.1; indexes = indexes.1 }) in
      let x = value_of i cells inputs received in
      let here = element_there cells first count x (omega (arith, ints, sound.within.0, inside.0)) (omega (arith, ints, sound.within.1, inside.1)) in
      let start : first + 0 ≡ first = omega arith in
      let at_first : slice_get s.cells first ≡ Some l.0.0 = subst (λ k. slice_get s.cells k ≡ Some l.0.0) start (array.each 0 (omega (arith, array.some))) in
      let same : l.0.0 ≡ range = same_Some l.0.0 range (sym at_first ∙ parts.2) in
      let found = value_at s.cells cells (first + unsigned_abs x) range read.of_cells (array.each (unsigned_abs x) here.2 ∙ ap Some same) in
      let value = open_.value_element p cells inputs received first count i ∙ here.0 in
      record {
        within = subst (λ y. IsIn y range) (sym value) found.within;
        computes =
            open_.computed_element p cells inputs received first count i
            ∙ ap (λ o. o >>= element_computed cells first count) sound.computes
            ∙ here.1 ∙ found.valued ∙ ap Some (sym value);
      }

  not_holds : (a : Expr) (p : Place) → Holds a → Holds (expr (kind.Not a) p)
  not_holds a p holds range h j =
      let part = mapped (λ (_ : Range). truth_range) (interval_in s a) range (sym (open_.interval_not p s a) ∙ j.interval) in
      let resolved = subst (Each (IsThere s)) (open_.leaves_not p a) h in
      let sound = holds part.0 resolved (record { interval = part.1; indexes = subst (Indexed s) (open_.seen_not p a) j.indexes }) in
      let value = open_.value_not p cells inputs received a in
      record {
        within = subst (λ y. IsIn y range) (sym value) (not_does (not (is_true (value_of a cells inputs received))) range (ap Some part.2));
        computes =
            open_.computed_not p cells inputs received a
            ∙ ap (λ o. o >>= λ x. Some (truth (not (is_true x)))) sound.computes
            ∙ ap Some (sym value);
      }

  neg_holds : (a : Expr) (p : Place) → Holds a → Holds (expr (kind.Neg a) p)
  neg_holds a p holds range h j =
      let part = bound negation_range (interval_in s a) range (sym (open_.interval_neg p s a) ∙ j.interval) in
      let resolved = subst (Each (IsThere s)) (open_.leaves_neg p a) h in
      let sound = holds part.0 resolved (record { interval = part.1; indexes = subst (Indexed s) (open_.seen_neg p a) j.indexes }) in
      let x = value_of a cells inputs received in
      let lies = negation_does x part.0 range sound.within part.2 in
      let value = open_.value_neg p cells inputs received a in
      let fit = lies.fits in
      let gives : negated x ≡ Some (neg_ℤ x) = rw fit refl in
      record {
        within = subst (λ y. IsIn y range) (sym value) lies.within;
        computes =
            open_.computed_neg p cells inputs received a
            ∙ ap (λ o. o >>= negated) sound.computes
            ∙ gives ∙ ap Some (sym value);
      }

  binary_holds : (op : Op) (a b : Expr) (p : Place) → Holds a → Holds b → Holds (expr (kind.Binary op a b) p)
  binary_holds op a b p holds_a holds_b range h j =
      let l = each_split (IsThere s) (leaves a) (leaves b) (subst (Each (IsThere s)) (open_.leaves_binary p op a b) h) in
      let k = each_split IsWithinArray ((seen a).indexes s) ((seen b).indexes s) (subst (Indexed s) (open_.seen_binary p op a b) j.indexes) in
      let u = bound (λ (x : Range). option_and_then (λ y. operation_range op x y) (interval_in s b)) (interval_in s a) range (sym (open_.interval_binary p s op a b) ∙ j.interval) in
      let v = bound (λ (y : Range). operation_range op u.0 y) (interval_in s b) range u.2 in
      let left = holds_a u.0 l.0 (record { interval = u.1; indexes = k.0 }) in
      let right = holds_b v.0 l.1 (record { interval = v.1; indexes = k.1 }) in
      let x = value_of a cells inputs received in
      let y = value_of b cells inputs received in
      let does = operation_does op x y u.0 v.0 range left.within right.within v.2 in
      let value = open_.value_binary p cells inputs received op a b in
      record {
        within = subst (λ z. IsIn z range) (sym value) does.within;
        computes =
            let can = does.can in
            let gives : applied op x y ≡ Some (operation op x y) = ap (λ t. provided t (operation op x y)) can in
            let to_left = left.computes in let to_right = right.computes in
            let both : (computed a cells inputs received >>= λ u. computed b cells inputs received >>= λ v. applied op u v) ≡ applied op x y = rw (to_left, to_right) refl in
            open_.computed_binary p cells inputs received op a b ∙ both ∙ gives ∙ ap Some (sym value);
      }

  pub sound : (e : Expr) → Holds e
  sound = of_expr Holds number_holds cell_holds element_holds input_holds part_holds not_holds neg_holds binary_holds
