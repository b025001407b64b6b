use Rattle.std.proofs.Common.{◌≡◌, ℕ, ℤ, List, Some, ap, sym, ◌∙◌, length, slice_get, rules}
use Rattle.std.proofs.lemmas.Int.{to_z-of_z}
use Rattle.std.specs.Int.{w64}
use Rattle.tap_base.specs.Ranges.{values_of}
use Rattle.tap_base.proofs.RangeFacts.{length_values}
use Rattle.drawn_choices.specs.Draws.{drawn, option_drawn}
use Rattle.drawn_choices.proofs.draws.draw_value.Goals as goal

-- the option at the place that a word takes
at_place : (options : List ℤ) (word count place : ℕ) (x y : ℤ) → length options ≡ count → place ≡ drawn word count → slice_get options place ≡ Some x → y ≡ x → option_drawn options word ≡ Some y
at_place options word count place x y n p e same =
    ap (λ (m : ℕ). slice_get options (drawn word m)) n ∙ ap (slice_get options) (sym p) ∙ e ∙ ap (λ (z : ℤ). Some z) (sym same)

pub returns-clause-value : goal.returns-clause-value
returns-clause-value c =
    let long = length_values c.args.range ∙ sym c.width.ensures.width in
    let place = c.pick-place.ensures.value ∙ ap (λ (w : ℕ). drawn w c.width.result) c.next_word.ensures.word in
    at_place (values_of c.args.range) _ c.width.result c.pick-place.result c.value_at.result _ long place c.value_at.ensures (to_z-of_z w64 c.value_at.result (search rules))
