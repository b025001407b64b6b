-- The values of a range, in rising order.
use Rattle.std.proofs.Common.{◌≡◌, ℕ, zero, suc, ◌+◌, ◌<◌, ℤ, pos, ◌+ℤ◌, ◌-ℤ◌, ◌≤ℤ◌, ◌<ℤ◌, int_le, unsigned_abs, Bool, true, false, map, ◌⊎◌, inl, inr, refl, ap, ◌∙◌, slice_get, length, Some, arith, zero-add, ◌≢◌}
use Rattle.std.specs.List.{list_any, range_with_len}
use Rattle.std.specs.Ordering.{int_eq}
use Rattle.std.specs.Bool.{Decides}
use Rattle.std.proofs.lemmas.Int.{ints}
use Rattle.std.proofs.lemmas.List.FromFn.{length-map-range_with_len}
use Rattle.std.proofs.lemmas.Option.{slice_get_within}
use Rattle.std.proofs.lemmas.Bool.Decides.{Decides-int_eq, Decides-like, Decides-or, Decides-and, same_from_decides}
use Rattle.tap_base.specs.declared.place.Range.{Range}
use Rattle.tap_base.specs.Interval.{IsIn}
use Rattle.tap_base.specs.Ranges.{is_within, width_of, values_of}

le_decides : (a b : ℤ) → Decides (int_le a b) (a ≤ℤ b)
le_decides a b = ((λ e. grind (arith, ints)), (λ h. grind (arith, ints)))

-- the test of a range says whether a number is in it
pub within_decides : (range : Range) (x : ℤ) → Decides (is_within range x) (IsIn x range)
within_decides range x = Decides-and (int_le range.lo x) (int_le x range.hi) (le_decides range.lo x) (le_decides x range.hi)

-- x is one of n numbers from the one at a on
abbrev IsFrom : ℤ → ℤ → ℕ → ℕ → Type 0
IsFrom lo x a n = ((lo +ℤ pos a) ≤ℤ x) × (x <ℤ (lo +ℤ pos (a + n)))

first_or_later : (lo x : ℤ) (a n : ℕ) → (x ≡ (lo +ℤ pos a)) ⊎ IsFrom lo x (a + 1) n → IsFrom lo x a (suc n)
first_or_later lo x a n (inl e) = (omega (arith, ints), omega (arith, ints))
first_or_later lo x a n (inr h) = (omega (arith, ints), omega (arith, ints))

split_first : (lo x : ℤ) (a n : ℕ) → IsFrom lo x a (suc n) → (x ≡ (lo +ℤ pos a)) ⊎ IsFrom lo x (a + 1) n
split_first lo x a n h = go (int_eq x (lo +ℤ pos a)) refl where
  go : (b : Bool) → int_eq x (lo +ℤ pos a) ≡ b → (x ≡ (lo +ℤ pos a)) ⊎ IsFrom lo x (a + 1) n
  go true e = inl ((Decides-int_eq x (lo +ℤ pos a)).0 e)
  go false e =
      let apart : x ≢ (lo +ℤ pos a) = λ q. let yes = (Decides-int_eq x (lo +ℤ pos a)).1 q in cc in
      inr (omega (arith, ints), omega (arith, ints))

any_from : (lo x : ℤ) (a n : ℕ) → Decides (list_any (int_eq x) (map (λ k. lo +ℤ pos k) (range_with_len a n))) (IsFrom lo x a n)
any_from lo x a zero = ((λ e. cc), (λ h. absurd (omega (arith, ints))))
any_from lo x a (suc n) =
    Decides-like _ (first_or_later lo x a n) (split_first lo x a n) (Decides-or _ _ (Decides-int_eq x (lo +ℤ pos a)) (any_from lo x (a + 1) n))

distance : (lo hi : ℤ) → lo ≤ℤ hi → pos (unsigned_abs (hi -ℤ lo)) ≡ (hi -ℤ lo)
distance lo hi h = grind (arith, ints)

-- a range of some values has as many as its ends are apart, and one more
pub width_is : (range : Range) → int_le range.lo range.hi ≡ true → pos (width_of range) ≡ ((range.hi -ℤ range.lo) +ℤ pos 1)
width_is range e = let apart = distance range.lo range.hi ((le_decides range.lo range.hi).0 e) in rw e (omega (arith, ints))

pub width_none : (range : Range) → int_le range.lo range.hi ≡ false → width_of range ≡ 0
width_none range e = rw e refl

all_from : (range : Range) (x : ℤ) → IsFrom range.lo x 0 (width_of range) → IsIn x range
all_from range x h = go (int_le range.lo range.hi) refl where
  go : (b : Bool) → int_le range.lo range.hi ≡ b → IsIn x range
  go true e = let wide = width_is range e in (omega (arith, ints), omega (arith, ints))
  go false e = let wide = width_none range e in absurd (omega (arith, ints))

from_all : (range : Range) (x : ℤ) → IsIn x range → IsFrom range.lo x 0 (width_of range)
from_all range x h = go (int_le range.lo range.hi) refl where
  go : (b : Bool) → int_le range.lo range.hi ≡ b → IsFrom range.lo x 0 (width_of range)
  go true e = let wide = width_is range e in (omega (arith, ints), omega (arith, ints))
  go false e = let over : range.lo ≤ℤ range.hi = omega (arith, ints) in let yes = (le_decides range.lo range.hi).1 over in cc

-- a number is among the values of a range where it is within it
pub among_values : (range : Range) (x : ℤ) → list_any (int_eq x) (values_of range) ≡ is_within range x
unfolding values_of
among_values range x =
    same_from_decides _ _ (Decides-like _ (all_from range x) (from_all range x) (any_from range.lo x 0 (width_of range))) (within_decides range x)

at_from : (lo : ℤ) (a n k : ℕ) → k < n → slice_get (map (λ k. lo +ℤ pos k) (range_with_len a n)) k ≡ Some (lo +ℤ pos (a + k))
at_from lo a zero k h = absurd (omega (arith, h))
at_from lo a (suc n) zero h = let same : a ≡ a + 0 = omega arith in ap (λ m. Some (lo +ℤ pos m)) same
at_from lo a (suc n) (suc k) h = let same : a + 1 + k ≡ a + suc k = omega arith in at_from lo (a + 1) n k (omega (arith, h)) ∙ ap (λ m. Some (lo +ℤ pos m)) same

-- below the width, the value at n is n above the least
pub value_at : (range : Range) (n : ℕ) → n < width_of range → slice_get (values_of range) n ≡ Some (range.lo +ℤ pos n)
unfolding values_of
value_at range n h = at_from range.lo 0 (width_of range) n h ∙ ap (λ m. Some (range.lo +ℤ pos m)) (zero-add n)

pub length_values : (range : Range) → length (values_of range) ≡ width_of range
unfolding values_of
length_values range = length-map-range_with_len (λ k. range.lo +ℤ pos k) 0 (width_of range)

-- the value at n, where there is one, is n above the least
pub value_there : (range : Range) (n : ℕ) (x : ℤ) → slice_get (values_of range) n ≡ Some x → x ≡ (range.lo +ℤ pos n)
value_there range n x h =
    let within : n < width_of range = omega (arith, length_values range, slice_get_within (values_of range) n x h) in
    let is = value_at range n within in
    cc

-- a value that comes later is greater
pub rising_values : (range : Range) (i j : ℕ) (x y : ℤ) → i < j → slice_get (values_of range) i ≡ Some x → slice_get (values_of range) j ≡ Some y → x <ℤ y
rising_values range i j x y h at_i at_j =
    let first = value_there range i x at_i in
    let second = value_there range j y at_j in
    omega (arith, ints)
