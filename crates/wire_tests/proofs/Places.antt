-- A fact of the element at each place is one of each element.
use Rattle.std.proofs.Common.{◌≡◌, ℕ, suc, ◌<◌, ℤ, List, [], ◌∷◌, length, get_or, map, refl, ap, arith}
use Rattle.tap_base.specs.declared.wire.WireField.{WireField}
use Rattle.tap_base.specs.Interval.{IsIn, field_range}
use Rattle.tap_base.specs.Lists.{Each}
use Rattle.tap_base.specs.Ranges.{AreIn}
use Rattle.byte_meaning.specs.Messages.{AreFields}

pub each_by_place : {A : Type 0} (P : A → Type 0) (xs : List A) → ((k : ℕ) (d : A) → k < length xs → P (get_or xs k d)) → Each P xs
each_by_place P [] h = tt
each_by_place P (x ∷ xs) h = (h 0 x (omega arith), each_by_place P xs (λ k d less. h (suc k) d (omega arith)))

pub fields_by_place : (fields : List WireField) (values : List ℤ) → length fields ≡ length values
    → ((k : ℕ) (d : WireField) (e : ℤ) → k < length fields → IsIn (get_or values k e) (field_range (get_or fields k d))) → AreFields fields values
fields_by_place fields values same h = record { counted = counted fields values same; within = within fields values same h } where
  counted : (fs : List WireField) (vs : List ℤ) → length fs ≡ length vs → length vs ≡ length (map field_range fs)
  counted [] [] e = refl
  counted [] (v ∷ vs) e = absurd (omega arith)
  counted (f ∷ fs) [] e = absurd (omega arith)
  counted (f ∷ fs) (v ∷ vs) e = ap suc (counted fs vs (omega arith))

  within : (fs : List WireField) (vs : List ℤ) → length fs ≡ length vs
      → ((k : ℕ) (d : WireField) (e : ℤ) → k < length fs → IsIn (get_or vs k e) (field_range (get_or fs k d))) → AreIn (map field_range fs) vs
  within [] vs e g = tt
  within (f ∷ fs) [] e g = tt
  within (f ∷ fs) (v ∷ vs) e g = (g 0 f v (omega arith), within fs vs (omega arith) (λ k d x less. g (suc k) d x (omega arith)))
