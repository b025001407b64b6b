-- The result of an operation on numbers within ranges is within the operation's range, and 64 bits compute it.
use Rattle.std.proofs.Common.{◌≡◌, ◌⊎◌, inl, inr, Bool, true, false, not, ◌&&◌, ◌||◌, if◌then◌else◌, refl, sym, ap, subst, ◌∙◌, Option, Some, None, arith}
use Rattle.std.specs.Prelude.{ℤ, pos, ◌+ℤ◌, ◌-ℤ◌, ◌*ℤ◌, ◌≤ℤ◌, ◌<ℤ◌, neg_ℤ, int_le, int_lt}
use Rattle.std.specs.Ordering.{int_eq}
use Rattle.std.specs.Int.{int_min, int_max, int_div_euclid, int_rem_euclid}
use Rattle.std.proofs.lemmas.Bool.Decides.{Decides-int_eq}
use Rattle.std.proofs.lemmas.Int.{by_lt_z, ints, clamps}
use Rattle.tap_base.specs.declared.place.Range.{Range}
use Rattle.tap_base.specs.declared.tree.Op.{Op}
use Rattle.tap_base.specs.declared.tree.Op.TheVariants.{Or, And, Eq, Ne, Lt, Le, Gt, Ge, Add, Sub, Mul, Div, Mod, Min, Max}
use Rattle.tap_base.specs.Interval.{IsIn, bounded, fits, has_zero, spanned, truth_range, operation_range, remainder_range, quotient_range}
use Rattle.tap_exec.specs.Computed.{can_apply}
use Rattle.tap_exec.specs.Value.{operation, is_true, truth, quotient, remainder}
use Rattle.sound_values.proofs.Corners.{at_corners, mul_between, mul_between_right, div_between, div_between_right}
use Rattle.sound_values.proofs.Remainders.{Lies, inside, rem_inside, remainder_inner, spanned_inside}

-- ---- sums and products

module _ (x y : ℤ) (a b c : Range) (in_a : IsIn x a) (in_b : IsIn y b) where
  sum_lies : operation_range Add a b ≡ Some c → Lies (x +ℤ y) c
  sum_lies e = inside (a.lo +ℤ b.lo) (a.hi +ℤ b.hi) (x +ℤ y) c e (omega (arith, ints, in_a.0, in_b.0)) (omega (arith, ints, in_a.1, in_b.1))

  difference_lies : operation_range Sub a b ≡ Some c → Lies (x -ℤ y) c
  difference_lies e = inside (a.lo -ℤ b.hi) (a.hi -ℤ b.lo) (x -ℤ y) c e (omega (arith, ints, in_a.0, in_b.1)) (omega (arith, ints, in_a.1, in_b.0))

  min_lies : operation_range Min a b ≡ Some c → Lies (int_min x y) c
  min_lies e = inside (int_min a.lo b.lo) (int_min a.hi b.hi) (int_min x y) c e (omega (arith, ints, clamps, in_a.0, in_b.0)) (omega (arith, ints, clamps, in_a.1, in_b.1))

  max_lies : operation_range Max a b ≡ Some c → Lies (int_max x y) c
  max_lies e = inside (int_max a.lo b.lo) (int_max a.hi b.hi) (int_max x y) c e (omega (arith, ints, clamps, in_a.0, in_b.0)) (omega (arith, ints, clamps, in_a.1, in_b.1))

  product_lies : operation_range Mul a b ≡ Some c → Lies (x *ℤ y) c
  product_lies e =
      spanned_inside (a.lo *ℤ b.lo) (a.lo *ℤ b.hi) (a.hi *ℤ b.lo) (a.hi *ℤ b.hi) (x *ℤ y) c e
      (at_corners (a.lo *ℤ b.lo) (a.lo *ℤ b.hi) (a.hi *ℤ b.lo) (a.hi *ℤ b.hi) (a.lo *ℤ y) (a.hi *ℤ y) (x *ℤ y)
      (mul_between_right b.lo b.hi y a.lo in_b.0 in_b.1) (mul_between_right b.lo b.hi y a.hi in_b.0 in_b.1) (mul_between a.lo a.hi x y in_a.0 in_a.1))

  -- ---- divisions

  one_side : has_zero b ≡ false → (pos 0 <ℤ b.lo) ⊎ (b.hi <ℤ pos 0)
  one_side e = by_lt_z (pos 0) b.lo (λ l. inl l) (λ l. by_lt_z b.hi (pos 0) (λ k. inr k) (λ k. absurd (both l k))) where
    both : b.lo ≤ℤ pos 0 → pos 0 ≤ℤ b.hi → ⊥
    both l k =
        let low : int_le b.lo (pos 0) ≡ true = grind (arith, ints) in
        let high : int_le (pos 0) b.hi ≡ true = grind (arith, ints) in
        let has : has_zero b ≡ true = rw (low, high) refl in
        let clash : true ≡ false = sym has ∙ e in
        cc

  not_zero : has_zero b ≡ false → y ≡ pos 0 → ⊥
  not_zero e z = elim (one_side e) [ inl l ↦ omega (arith, ints, in_b.0) | inr l ↦ omega (arith, ints, in_b.1) ]

  -- a number that is not this one
  tested : (n : ℤ) → (y ≡ n → ⊥) → int_eq y n ≡ false
  tested n apart = by_test (int_eq y n) refl where
    by_test : (t : Bool) → int_eq y n ≡ t → t ≡ false
    by_test true f = absurd (apart ((Decides-int_eq y n).0 f))
    by_test false f = refl

  unless : (t : Bool) (o : Option Range) → (if t then None else o) ≡ Some c → (t ≡ false) × (o ≡ Some c)
  unless true o e = cc
  unless false o e = (refl, e)

  quotient_lies : quotient_range a b ≡ Some c → (int_eq y (pos 0) ≡ false) × Lies (quotient x y) c
  quotient_lies e =
      let u = unless (has_zero b) (spanned (int_div_euclid a.lo b.lo) (int_div_euclid a.lo b.hi) (int_div_euclid a.hi b.lo) (int_div_euclid a.hi b.hi)) e in
      let side = one_side u.0 in
      let nonzero = not_zero u.0 in
      let test = tested (pos 0) nonzero in
      let is : int_div_euclid x y ≡ quotient x y = ap (λ t. if t then pos 0 else int_div_euclid x y) (sym test) in (
        test,
        subst (λ q. Lies q c) is
            (spanned_inside (int_div_euclid a.lo b.lo) (int_div_euclid a.lo b.hi) (int_div_euclid a.hi b.lo) (int_div_euclid a.hi b.hi) (int_div_euclid x y) c u.1
            (at_corners (int_div_euclid a.lo b.lo) (int_div_euclid a.lo b.hi) (int_div_euclid a.hi b.lo) (int_div_euclid a.hi b.hi) (int_div_euclid a.lo y) (int_div_euclid a.hi y) (int_div_euclid x y)
            (div_between_right b.lo b.hi y a.lo side in_b.0 in_b.1) (div_between_right b.lo b.hi y a.hi side in_b.0 in_b.1) (div_between a.lo a.hi x y nonzero in_a.0 in_a.1))),
      )

  remainder_lies : remainder_range a b ≡ Some c → (int_eq y (pos 0) ≡ false) × IsIn (remainder x y) c
  remainder_lies e =
      let u = unless (has_zero b) (remainder_inner a b) e in
      let test = tested (pos 0) (not_zero u.0) in
      let is : int_rem_euclid x y ≡ remainder x y = ap (λ t. if t then pos 0 else int_rem_euclid x y) (sym test) in
      (test, subst (λ r. IsIn r c) is (rem_inside x y a b c in_a in_b (one_side u.0) u.1))

-- ---- all operations

truth_lies : (t : Bool) → Lies (truth t) truth_range
truth_lies true = record { within = (omega (arith, ints), omega (arith, ints)); fits = refl }
truth_lies false = record { within = (omega (arith, ints), omega (arith, ints)); fits = refl }

truth_does : (t : Bool) (c : Range) → Some truth_range ≡ Some c → Lies (truth t) c
truth_does t c e = let same : truth_range ≡ c = cc in subst (Lies (truth t)) same (truth_lies t)

-- the result is within the range, and 64 bits compute it
pub record Does (op : Op) (x y : ℤ) (c : Range) : Type 0 where
  pub within : IsIn (operation op x y) c
  pub can : can_apply op x y ≡ true

quotient_can : (s t : Bool) → s ≡ false → t ≡ true → (not s && t) ≡ true
quotient_can s t e f = rw (e, f) refl

remainder_can : (s : Bool) → s ≡ false → not s ≡ true
remainder_can s e = rw e refl

pub operation_does : (op : Op) (x y : ℤ) (a b c : Range) → IsIn x a → IsIn y b → operation_range op a b ≡ Some c → Does op x y c
operation_does Or x y a b c h k e = let l = truth_does (is_true x || is_true y) c e in record { within = l.within; can = l.fits }
operation_does And x y a b c h k e = let l = truth_does (is_true x && is_true y) c e in record { within = l.within; can = l.fits }
operation_does Eq x y a b c h k e = let l = truth_does (int_eq x y) c e in record { within = l.within; can = l.fits }
operation_does Ne x y a b c h k e = let l = truth_does (not (int_eq x y)) c e in record { within = l.within; can = l.fits }
operation_does Lt x y a b c h k e = let l = truth_does (int_lt x y) c e in record { within = l.within; can = l.fits }
operation_does Le x y a b c h k e = let l = truth_does (int_le x y) c e in record { within = l.within; can = l.fits }
operation_does Gt x y a b c h k e = let l = truth_does (int_lt y x) c e in record { within = l.within; can = l.fits }
operation_does Ge x y a b c h k e = let l = truth_does (int_le y x) c e in record { within = l.within; can = l.fits }
operation_does Add x y a b c h k e = let l = sum_lies x y a b c h k e in record { within = l.within; can = l.fits }
operation_does Sub x y a b c h k e = let l = difference_lies x y a b c h k e in record { within = l.within; can = l.fits }
operation_does Mul x y a b c h k e = let l = product_lies x y a b c h k e in record { within = l.within; can = l.fits }
operation_does Div x y a b c h k e =
    let l = quotient_lies x y a b c h k e in
    record { within = l.1.within; can = quotient_can (int_eq y (pos 0)) (fits (quotient x y)) l.0 l.1.fits }
operation_does Mod x y a b c h k e =
    let l = remainder_lies x y a b c h k e in
    record { within = l.1; can = remainder_can (int_eq y (pos 0)) l.0 }
operation_does Min x y a b c h k e = let l = min_lies x y a b c h k e in record { within = l.within; can = l.fits }
operation_does Max x y a b c h k e = let l = max_lies x y a b c h k e in record { within = l.within; can = l.fits }

pub negation_does : (x : ℤ) (a c : Range) → IsIn x a → bounded (neg_ℤ a.hi) (neg_ℤ a.lo) ≡ Some c → Lies (neg_ℤ x) c
negation_does x a c h e = inside (neg_ℤ a.hi) (neg_ℤ a.lo) (neg_ℤ x) c e (omega (arith, ints, h.1)) (omega (arith, ints, h.0))

pub not_does : (t : Bool) (c : Range) → Some truth_range ≡ Some c → IsIn (truth t) c
not_does t c e = (truth_does t c e).within
