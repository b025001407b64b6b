-- The draws of a run: the choices of the actions of a process use the words of its generator in order, one each.
use Rattle.std.specs.Prelude.{ℕ, ◌≡◌, ℤ, true, List, [], ◌∷◌, length, map, slice_get, slice_set, Some}
use Rattle.std.specs.List.{range_with_len}
use Rattle.rand_pcg.specs.Lcg.{Lcg}
use Rattle.abstract_run.specs.declared.label.Label.{Label}
use Rattle.abstract_run.specs.declared.label.Label.TheVariants as label
use Rattle.abstract_run.specs.declared.state.State.{State}
use Rattle.abstract_run.specs.Progress.{leads_to}
use Rattle.tap_exec.specs.Semantics.{Semantics}
use Rattle.drawn_choices.specs.Draws.{AreDrawn, after_words, generator_of, word_from}
use Rattle.exact_choice.specs.Moments.{Moment, moments}

-- one generator for each process, by the seed of the run and its number
abbrev pub opening_generators : ℕ → Semantics → List Lcg
opening_generators seed semantics = map (generator_of seed) (range_with_len 0 (length semantics.processes))

-- The choices of an action of p are drawn by the words of its generator, which has then given one for each. The other
-- generators stay.
pub record DrawsAct (semantics : Semantics) (s : State) (p a : ℕ) (choices : List ℤ) (old new : List Lcg) : Type 0 where
  pub from : Lcg
  pub stood : slice_get old p ≡ Some from
  pub drawn : AreDrawn (leads_to semantics s p a) (word_from from) 0 choices
  pub moved : new ≡ slice_set old p (after_words (length choices) from)

-- An action draws so. Every other label leaves the generators.
abbrev pub Draws : Semantics → Moment → List Lcg → List Lcg → Type 0
Draws semantics (s, label.Act p a choices) old new = DrawsAct semantics s p a choices old new
Draws semantics m old new = new ≡ old

-- one moment after another
abbrev pub AllDraw : Semantics → List Moment → List Lcg → List Lcg → Type 0
AllDraw semantics [] old new = new ≡ old
AllDraw semantics (m ∷ ms) old new = (middle : List Lcg) × Draws semantics m old middle × AllDraw semantics ms middle new

-- All choices of a run are drawn so; at its beginning the generators are those of the seed.
pub record DrawsInOrder (seed : ℕ) (semantics : Semantics) (s : State) (labels : List Label) : Type 0 where
  -- the generators at the end
  pub generators : List Lcg
  pub all : AllDraw semantics (moments semantics s labels) (opening_generators seed semantics) generators

-- What is drawn is determined, and so are the generators.
abbrev pub OneDraw : Type 0
OneDraw =
    (semantics : Semantics) (s : State) (p a : ℕ) (xs ys : List ℤ) (old new other : List Lcg) → leads_to semantics s p a xs ≡ true → leads_to semantics s p a ys ≡ true
    → DrawsAct semantics s p a xs old new → DrawsAct semantics s p a ys old other → (xs ≡ ys) × (new ≡ other)
