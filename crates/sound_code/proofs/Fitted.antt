-- A register of a fitting moment, and a write to one.
use Rattle.std.proofs.Common.{◌≡◌, ◌+◌, ◌<◌, ℕ, zero, suc, ℤ, true, List, [], ◌∷◌, length, take, drop, refl, ◌∙◌, slice_get, slice_set, Option, Some, None, arith}
use Rattle.std.specs.Prelude.{◌≤ℤ◌, nat_lt, int_le}
use Rattle.std.proofs.lemmas.Bool.{and_parts, ltb-true}
use Rattle.std.proofs.lemmas.Int.{ints}
use Rattle.std.proofs.lemmas.List.{length-set}
use Rattle.std.proofs.lemmas.Option.{slice_get_within}
use Rattle.tap_base.specs.declared.place.Range.{Range}
use Rattle.tap_base.specs.Interval.{IsIn}
use Rattle.tap_base.specs.Lists.{EachBoth}
use Rattle.tap_base.proofs.ListFacts.{both_at, both_set, element_at}
use Rattle.sound_code.specs.Fitting.{FitsSite}
use Rattle.register_code.specs.Instructions.{Moment}
use Rattle.register_code.specs.Sites.{Site, both_in, lies_in}

-- what a register holds, and its range
pub record Held (s : Site) (m : Moment) (a : ℕ) : Type 0 where
  pub value : ℤ
  pub range : Range
  pub at : slice_get m.registers a ≡ Some value
  pub ranged : slice_get s.ranges a ≡ Some range
  pub within : IsIn value range

pub held : (s : Site) (m : Moment) (a : ℕ) → FitsSite s m → nat_lt a (length s.ranges) ≡ true → Held s m a
held s m a fits named =
    let inside = ltb-true a (length s.ranges) named in
    let range = element_at s.ranges a inside in
    let value = element_at m.registers a (omega (arith, fits.registers.counted, inside)) in
    record { value = value.0; range = range.0; at = value.1; ranged = range.1; within = both_at _ s.ranges m.registers a range.0 value.0 fits.registers.within range.1 value.1 }

pub lies_is : (a b : Range) → lies_in a b ≡ true → (b.lo ≤ℤ a.lo) × (a.hi ≤ℤ b.hi)
lies_is a b e = let parts = and_parts (int_le b.lo a.lo) (int_le a.hi b.hi) e in (grind (arith, ints), grind (arith, ints))

pub lies_on : (a b : Range) (x : ℤ) → lies_in a b ≡ true → IsIn x a → IsIn x b
lies_on a b x e h = let k = lies_is a b e in (omega (arith, ints, k.0, h.0), omega (arith, ints, k.1, h.1))

-- two ranges of which the first lies in the second
pub record Lie (a b : Option Range) : Type 0 where
  pub first : Range
  pub second : Range
  pub one : a ≡ Some first
  pub other : b ≡ Some second
  pub within : lies_in first second ≡ true

pub both_are : (a b : Option Range) → both_in a b ≡ true → Lie a b
both_are None b e = cc
both_are (Some x) None e = cc
both_are (Some x) (Some y) e = record { first = x; second = y; one = refl; other = refl; within = e }

pub puts_fits : (s : Site) (m : Moment) (r : ℕ) (x : ℤ) (range : Range) → FitsSite s m → m.next < length s.instrs → slice_get s.ranges r ≡ Some range → IsIn x range
    → FitsSite s (record m { next = m.next + 1; registers = slice_set m.registers r x })
puts_fits s m r x range fits going ranged within_it = record {
  registers = record {
    counted = length-set m.registers r x ∙ fits.registers.counted;
    within = both_set _ s.ranges m.registers r range x fits.registers.within ranged within_it;
  };
  counters = fits.counters;
  timers = fits.timers;
  delays = fits.delays;
  sends = fits.sends;
  inside = omega (arith, going);
}

-- what a register with this range holds
pub held_in : (s : Site) (m : Moment) (a : ℕ) (range : Range) → FitsSite s m → slice_get s.ranges a ≡ Some range → (x : ℤ) × (slice_get m.registers a ≡ Some x) × IsIn x range
held_in s m a range fits ranged =
    let inside = slice_get_within s.ranges a range ranged in
    let value = element_at m.registers a (omega (arith, fits.registers.counted, inside)) in
    (value.0, value.1, both_at _ s.ranges m.registers a range value.0 fits.registers.within ranged value.1)

-- ---- runs of a list

pub both_take : {A B : Type 0} (R : A → B → Type 0) (n : ℕ) (xs : List A) (ys : List B) → EachBoth R xs ys → EachBoth R (take n xs) (take n ys)
both_take R zero xs ys h = tt
both_take R (suc n) [] ys h = tt
both_take R (suc n) (x ∷ xs) [] h = tt
both_take R (suc n) (x ∷ xs) (y ∷ ys) h = (h.0, both_take R n xs ys h.1)

pub both_drop : {A B : Type 0} (R : A → B → Type 0) (n : ℕ) (xs : List A) (ys : List B) → length xs ≡ length ys → EachBoth R xs ys → EachBoth R (drop n xs) (drop n ys)
both_drop R zero xs ys e h = h
both_drop R (suc n) [] ys e h = tt
both_drop R (suc n) (x ∷ xs) [] e h = absurd (omega (arith, e))
both_drop R (suc n) (x ∷ xs) (y ∷ ys) e h = both_drop R n xs ys (omega (arith, e)) h.1
