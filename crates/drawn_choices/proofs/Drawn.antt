-- What a generator gives of no options.
use Rattle.std.proofs.Common.{◌≡◌, ◌<ℤ◌, ◌∙◌, ℕ, ℤ, Bool, true, false, List, [], ◌∷◌, length, refl, ap, Option, Some, None, arith}
use Rattle.std.specs.Prelude.{int_le}
use Rattle.std.proofs.lemmas.Int.{ints}
use Rattle.tap_base.specs.declared.place.Range.{Range}
use Rattle.tap_base.specs.Ranges.{values_of, width_of}
use Rattle.tap_base.proofs.RangeFacts.{length_values, width_none}
use Rattle.drawn_choices.specs.declared.drawing.Drawing.{Drawing}
use Rattle.drawn_choices.specs.Drawing.{drawing}

none_there : (xs : List ℤ) → length xs ≡ 0 → xs ≡ []
none_there [] e = refl
none_there (x ∷ xs) e = absurd (omega (arith, e))

turned : (range : Range) → range.hi <ℤ range.lo → int_le range.lo range.hi ≡ false
turned range h = by_test (int_le range.lo range.hi) refl where
  by_test : (b : Bool) → int_le range.lo range.hi ≡ b → int_le range.lo range.hi ≡ false
  by_test false e = e
  by_test true e = absurd (grind (arith, ints))

-- a range without values gives nothing
pub nothing_drawn : (range : Range) (from : Drawing) → range.hi <ℤ range.lo → drawing (values_of range) from ≡ None
nothing_drawn range from h =
    let none : values_of range ≡ [] = none_there (values_of range) (length_values range ∙ width_none range (turned range h)) in
    ap (λ (xs : List ℤ). drawing xs from) none
