-- A number between bounds, and a remainder, whose divisor is on one side of 0.
use Rattle.std.proofs.Common.{◌≡◌, ℕ, ◌<◌, ◌≤◌, ◌%◌, ◌⊎◌, inl, inr, Bool, true, false, ◌&&◌, if◌then◌else◌, ◌-◌, refl, sym, ap, subst, Option, Some, arith}
use Rattle.std.specs.Prelude.{ℤ, pos, negsuc, ◌-ℤ◌, ◌≤ℤ◌, ◌<ℤ◌, int_le, int_lt, max, min, unsigned_abs}
use Rattle.std.specs.Int.{int_min, int_max, int_rem_euclid}
use Rattle.std.proofs.lemmas.Int.{ints}
use Rattle.std.proofs.Math.Nat.{mod-eq_of_lt}
use Rattle.std.proofs.lemmas.Option.{cond_some}
use Rattle.tap_base.specs.declared.place.Range.{Range}
use Rattle.tap_base.specs.Interval.{IsIn, bounded, fits, from_to, spanned}

-- within a range, and a number of 64 bits
pub record Lies (x : ℤ) (c : Range) : Type 0 where
  pub within : IsIn x c
  pub fits : fits x ≡ true

both_true : (a b : Bool) → (a && b) ≡ true → (a ≡ true) × (b ≡ true)
both_true true true e = (refl, refl)
both_true true false e = cc
both_true false b e = cc

fits_between : (lo hi x : ℤ) → fits lo ≡ true → fits hi ≡ true → lo ≤ℤ x → x ≤ℤ hi → fits x ≡ true
fits_between lo hi x h k l r = grind (arith, ints)

pub inside : (lo hi x : ℤ) (c : Range) → bounded lo hi ≡ Some c → lo ≤ℤ x → x ≤ℤ hi → Lies x c
inside lo hi x c e l r =
    let made = cond_some (fits lo && fits hi) (from_to lo hi) c e in
    let ends = both_true (fits lo) (fits hi) made.0 in
    record { within = subst (IsIn x) made.1 (l, r); fits = fits_between lo hi x ends.0 ends.1 l r }

pub spanned_inside : (w x y z v : ℤ) (c : Range) → spanned w x y z ≡ Some c → (int_min (int_min w x) (int_min y z) ≤ℤ v) × (v ≤ℤ int_max (int_max w x) (int_max y z)) → Lies v c
spanned_inside w x y z v c e h = inside (int_min (int_min w x) (int_min y z)) (int_max (int_max w x) (int_max y z)) v c e h.0 h.1

-- ---- remainders

abs_between : (lo hi y : ℤ) → (pos 0 <ℤ lo) ⊎ (hi <ℤ pos 0) → lo ≤ℤ y → y ≤ℤ hi
    → (min (unsigned_abs lo) (unsigned_abs hi) ≤ unsigned_abs y) × (unsigned_abs y ≤ max (unsigned_abs lo) (unsigned_abs hi)) × (0 < unsigned_abs y)
abs_between (pos lo) (pos hi) (pos y) (inl s) h k = (omega (arith, ints), omega (arith, ints), omega (arith, ints))
abs_between (pos lo) (pos hi) (pos y) (inr s) h k = absurd (omega (arith, ints))
abs_between (negsuc lo) (negsuc hi) (negsuc y) s h k = (omega (arith, ints), omega (arith, ints), omega (arith, ints))
abs_between (pos lo) (pos hi) (negsuc y) s h k = absurd (omega (arith, ints))
abs_between (negsuc lo) (negsuc hi) (pos y) s h k = absurd (omega (arith, ints))
abs_between (pos lo) (negsuc hi) y s h k = absurd (omega (arith, ints))
abs_between (negsuc lo) (pos hi) y (inl s) h k = absurd (omega (arith, ints))
abs_between (negsuc lo) (pos hi) y (inr s) h k = absurd (omega (arith, ints))

-- the remainder by a number of this absolute value
abbrev rem_by : ℤ → ℕ → ℤ
rem_by (pos n) k = pos (n % k)
rem_by (negsuc n) k = pos (k - 1 - n % k)

rem_is : (x y : ℤ) → int_rem_euclid x y ≡ rem_by x (unsigned_abs y)
rem_is (pos n) y = refl
rem_is (negsuc n) y = refl

rem_range : (x : ℤ) (k : ℕ) → 0 < k → (pos 0 ≤ℤ rem_by x k) × (rem_by x k ≤ℤ (pos k -ℤ pos 1))
rem_range (pos n) k h = (omega (arith, ints), omega (arith, ints))
rem_range (negsuc n) k h = (omega (arith, ints), omega (arith, ints))

rem_small : (x : ℤ) (k : ℕ) → 0 < k → pos 0 ≤ℤ x → x <ℤ pos k → rem_by x k ≡ x
rem_small (pos n) k h l r = ap pos (mod-eq_of_lt (omega (arith, ints)))
rem_small (negsuc n) k h l r = absurd (omega (arith, ints))

-- the range of a remainder whose divisor is not 0
abbrev pub remainder_inner : Range → Range → Option Range
remainder_inner a b =
    if int_le (pos 0) a.lo && int_lt a.hi (pos (min (unsigned_abs b.lo) (unsigned_abs b.hi)))
    then Some a
    else bounded (pos 0) (pos (max (unsigned_abs b.lo) (unsigned_abs b.hi)) -ℤ pos 1)

pub rem_inside : (x y : ℤ) (a b c : Range) → IsIn x a → IsIn y b → (pos 0 <ℤ b.lo) ⊎ (b.hi <ℤ pos 0) → remainder_inner a b ≡ Some c → IsIn (int_rem_euclid x y) c
rem_inside x y a b c in_a in_b side e =
    let k = abs_between b.lo b.hi y side in_b.0 in_b.1 in
    rw (rem_is x y) (by_test (int_le (pos 0) a.lo) (int_lt a.hi (pos (min (unsigned_abs b.lo) (unsigned_abs b.hi)))) refl refl e k) where
      large : bounded (pos 0) (pos (max (unsigned_abs b.lo) (unsigned_abs b.hi)) -ℤ pos 1) ≡ Some c
          → (min (unsigned_abs b.lo) (unsigned_abs b.hi) ≤ unsigned_abs y) × (unsigned_abs y ≤ max (unsigned_abs b.lo) (unsigned_abs b.hi)) × (0 < unsigned_abs y) → IsIn (rem_by x (unsigned_abs y)) c
      large f k = let r = rem_range x (unsigned_abs y) k.2 in
          (inside (pos 0) (pos (max (unsigned_abs b.lo) (unsigned_abs b.hi)) -ℤ pos 1) (rem_by x (unsigned_abs y)) c f r.0 (omega (arith, ints, r.1, k.1))).within

      by_test : (p q : Bool) → int_le (pos 0) a.lo ≡ p → int_lt a.hi (pos (min (unsigned_abs b.lo) (unsigned_abs b.hi))) ≡ q
          → (if p && q then Some a else bounded (pos 0) (pos (max (unsigned_abs b.lo) (unsigned_abs b.hi)) -ℤ pos 1)) ≡ Some c
          → (min (unsigned_abs b.lo) (unsigned_abs b.hi) ≤ unsigned_abs y) × (unsigned_abs y ≤ max (unsigned_abs b.lo) (unsigned_abs b.hi)) × (0 < unsigned_abs y) → IsIn (rem_by x (unsigned_abs y)) c
      by_test true true l r f k =
          let low : pos 0 ≤ℤ a.lo = grind (arith, ints) in
          let high : a.hi <ℤ pos (min (unsigned_abs b.lo) (unsigned_abs b.hi)) = grind (arith, ints) in
          let same : a ≡ c = cc in
          let is = rem_small x (unsigned_abs y) k.2 (omega (arith, ints, in_a.0)) (omega (arith, ints, in_a.1, k.0)) in
          subst (λ z. IsIn z c) (sym is) (subst (IsIn x) same in_a)
      by_test true false l r f k = large f k
      by_test false q l r f k = large f k
