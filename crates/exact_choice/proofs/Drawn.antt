-- Draws of one moment after another.
use Rattle.std.proofs.Common.{◌≡◌, ◌∙◌, ℕ, ℤ, true, List, [], ◌∷◌, ◌++◌, length, refl, ap, sym, subst, slice_get, slice_set, Some}
use Rattle.std.proofs.lemmas.List.{length-set}
use Rattle.std.proofs.lemmas.List.FromFn.{length-map-range_with_len}
use Rattle.rand_pcg.specs.Lcg.{Lcg}
use Rattle.abstract_run.specs.declared.label.Label.TheVariants as label
use Rattle.abstract_run.specs.declared.state.State.{State}
use Rattle.abstract_run.specs.Progress.{leads_to}
use Rattle.tap_exec.specs.Semantics.{Semantics}
use Rattle.drawn_choices.specs.Draws.{AreDrawn, after_words, generator_of, word_from}
use Rattle.drawn_choices.proofs.OneDrawn.{one_drawn}
use Rattle.exact_choice.specs.Draws.{AllDraw, Draws, DrawsAct, OneDraw, opening_generators}
use Rattle.exact_choice.specs.Moments.{Moment}

-- one after another, and then others
pub all_draw_joined : (semantics : Semantics) (xs ys : List Moment) (a b c : List Lcg) → AllDraw semantics xs a b → AllDraw semantics ys b c → AllDraw semantics (xs ++ ys) a c
all_draw_joined semantics [] ys a b c x y = subst (λ (gs : List Lcg). AllDraw semantics ys gs c) x y
all_draw_joined semantics (m ∷ xs) ys a b c x y = (x.0, x.1, all_draw_joined semantics xs ys x.0 b c x.2 y)

-- there is a generator for each process
pub generators_opened : (seed : ℕ) (semantics : Semantics) → length (opening_generators seed semantics) ≡ length semantics.processes
generators_opened seed semantics = length-map-range_with_len (generator_of seed) 0 (length semantics.processes)

-- and they stay as many
pub generators_kept : (semantics : Semantics) (m : Moment) (old new : List Lcg) → Draws semantics m old new → length new ≡ length old
generators_kept semantics (s, label.Act p a choices) old new x = ap length x.moved ∙ length-set old p _
generators_kept semantics (s, _) old new x = ap length x

pub one_draw : OneDraw
one_draw semantics s p a xs ys old new other leads ends x y =
    let from : x.from ≡ y.from = let both : Some x.from ≡ Some y.from = sym x.stood ∙ y.stood in cc in
    let drawn : AreDrawn (leads_to semantics s p a) (word_from x.from) 0 ys = subst (λ g. AreDrawn (leads_to semantics s p a) (word_from g) 0 ys) (sym from) y.drawn in
    let same : xs ≡ ys = one_drawn (leads_to semantics s p a) (word_from x.from) 0 xs ys leads ends x.drawn drawn in
    (same, x.moved ∙ ap (λ (zs : List ℤ). slice_set old p (after_words (length zs) x.from)) same ∙ ap (λ (g : Lcg). slice_set old p (after_words (length ys) g)) from ∙ sym y.moved)
