-- Options in rising order.
use Rattle.std.proofs.Common.{◌≡◌, ◌+◌, ◌<◌, ℕ, suc, ℤ, pos, Bool, true, false, if◌then◌else◌, List, [], ◌∷◌, map, refl, slice_get, Some, arith}
use Rattle.std.specs.Prelude.{◌<ℤ◌}
use Rattle.std.specs.Ordering.{int_eq}
use Rattle.std.proofs.lemmas.Int.{ints}
use Rattle.tap_base.specs.declared.place.Range.{Range}
use Rattle.tap_base.specs.Lists.{Each}
use Rattle.tap_base.specs.Ranges.{values_of}
use Rattle.tap_base.proofs.RangeFacts.{rising_values}
use Rattle.drawn_choices.specs.Draws.{AreRising}
use Rattle.register_code.specs.Instructions.{ones}

each_by : {A : Type 0} (P : A → Type 0) (xs : List A) → ((j : ℕ) (y : A) → slice_get xs j ≡ Some y → P y) → Each P xs
each_by P [] h = tt
each_by P (x ∷ xs) h = (h 0 x refl, each_by P xs (λ j. h (suc j)))

rising_by : (xs : List ℤ) → ((i j : ℕ) (x y : ℤ) → i < j → slice_get xs i ≡ Some x → slice_get xs j ≡ Some y → x <ℤ y) → AreRising xs
rising_by [] h = tt
rising_by (x ∷ xs) h = (each_by (λ (y : ℤ). x <ℤ y) xs (λ j y e. h 0 (suc j) x y (omega arith) refl e), rising_by xs (λ i j x y l. h (suc i) (suc j) x y (omega (arith, l))))

pub values_rise : (range : Range) → AreRising (values_of range)
values_rise range = rising_by (values_of range) (rising_values range)

-- the places of ones are behind the first that is looked at
behind : (i k : ℕ) (xs : List ℤ) → k < i → Each (λ (y : ℤ). pos k <ℤ y) (map pos (ones i xs))
behind i k [] l = tt
behind i k (x ∷ xs) l = by_test (int_eq x (pos 1)) (behind (i + 1) k xs (omega (arith, l))) where
  by_test : (b : Bool) → Each (λ (y : ℤ). pos k <ℤ y) (map pos (ones (i + 1) xs)) → Each (λ (y : ℤ). pos k <ℤ y) (map pos (if b then i ∷ ones (i + 1) xs else ones (i + 1) xs))
  by_test true rest = (omega (arith, ints, l), rest)
  by_test false rest = rest

pub ones_rise : (i : ℕ) (xs : List ℤ) → AreRising (map pos (ones i xs))
ones_rise i [] = tt
ones_rise i (x ∷ xs) = by_test (int_eq x (pos 1)) (ones_rise (i + 1) xs) where
  by_test : (b : Bool) → AreRising (map pos (ones (i + 1) xs)) → AreRising (map pos (if b then i ∷ ones (i + 1) xs else ones (i + 1) xs))
  by_test true rest = (behind (i + 1) i xs (omega arith), rest)
  by_test false rest = rest
