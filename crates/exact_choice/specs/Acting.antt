-- An action whose choices a generator draws is done as with these choices in a label.
use Rattle.std.specs.Prelude.{◌≡◌, ℕ, true, length, List, ℤ, None, Some}
use Rattle.rand_pcg.specs.Lcg.{Lcg}
use Rattle.tap_base.specs.declared.system.System.{System}
use Rattle.tap_base.specs.Lists.{Each}
use Rattle.tap_exec.specs.Semantics.{semantics_of}
use Rattle.abstract_run.specs.declared.label.Label.TheVariants as label
use Rattle.abstract_run.specs.declared.state.State.{State}
use Rattle.abstract_run.specs.Enabled.{is_enabled}
use Rattle.abstract_run.specs.Fits.{Fits}
use Rattle.abstract_run.specs.Progress.{HasRoom, leads_to}
use Rattle.abstract_run.specs.Step.{After, is_live, step}
use Rattle.abstract_run.specs.inner.ByChoices.{acted_in}
use Rattle.drawn_choices.specs.Drawing.{drawing, drawing_from, may_end}
use Rattle.drawn_choices.specs.Draws.{AreDrawn, after_words, word_from}

-- The words of a generator draw choices of the action of p numbered a, and the step of the label with these choices is
-- what code does that takes its choices from the generator, which has then given one word for each.
pub record ActsDrawn (system : System) (s : State) (p a : ℕ) (g : Lcg) : Type 0 where
  pub choices : List ℤ
  pub leads : leads_to (semantics_of system) s p a choices ≡ true
  pub drawn : AreDrawn (leads_to (semantics_of system) s p a) (word_from g) 0 choices
  pub after : After
  pub steps : step (semantics_of system) s (label.Act p a choices) ≡ Some after
  pub acts : acted_in drawing may_end system s p a (drawing_from g) ≡ Some (after, record { generator = after_words (length choices) g; taken = choices })

-- In each fitting state with nothing falling any generator draws the choices of an enabled action of a process that is not
-- down, where each channel has room for what it may send.
abbrev pub CanDraw : System → Type 0
CanDraw system =
    (s : State) (p a : ℕ) (g : Lcg) → Fits (semantics_of system) s → s.falling ≡ None → is_live s p ≡ true → Each HasRoom s.channels
    → is_enabled (semantics_of system) s p a ≡ true → ActsDrawn system s p a g
