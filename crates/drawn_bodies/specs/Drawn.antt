-- Words draw the choices of a body: after any choices it has options, and by drawing it comes to its end.
use Rattle.std.specs.Prelude.{ℕ, ◌<◌, ◌^◌, ◌≡◌, ℤ, true, List, Option, Some, slice_get, is_some}
use Rattle.tap_base.specs.Option.{◌>>=◌, provided}
use Rattle.tap_base.specs.Resolved.{IsResolved}
use Rattle.tap_base.specs.declared.system.System.{System}
use Rattle.tap_exec.specs.Running.{Running}
use Rattle.abstract_run.specs.Safe.{IsBeginning}
use Rattle.tap_exec.specs.Semantics.{ActionSemantics, ProcessSemantics, semantics_of}
use Rattle.tap_exec.specs.Execution.{is_empty}
use Rattle.drawn_choices.specs.Draws.{AreDrawn, AreOptions, Leading}
use Rattle.sound_bodies.specs.Judged.{IsJudgedSystem}

-- whether choices lead a body from here to its end, and are all taken
abbrev pub leads_from : (Running → Option Running) → Running → Leading
leads_from body r choices = is_some (body (record r { choices = choices }) >>= λ after. provided (is_empty after.choices) after)

-- what can be taken after these choices is a rising list
pub record HasOptions (leads : Leading) (before : List ℤ) : Type 0 where
  pub options : List ℤ
  pub are : AreOptions leads before options

-- choices that lead to the end and are drawn by the words from the one numbered k on
pub record DrawsToEnd (leads : Leading) (word : ℕ → ℕ) (k : ℕ) : Type 0 where
  pub choices : List ℤ
  pub ends : leads choices ≡ true
  pub drawn : AreDrawn leads word k choices

-- A body has options after any choices, and whatever words of 32 bits there are, they draw choices that lead to its end.
pub record CanBeDrawn (leads : Leading) : Type 0 where
  pub options : (before : List ℤ) → HasOptions leads before
  pub draws : (word : ℕ → ℕ) (k : ℕ) → ((n : ℕ) → word n < 2 ^ 32) → DrawsToEnd leads word k

-- Each body of a resolved system that is judged right can be drawn, whatever it fittingly begins with.
abbrev pub BodiesAreDrawn : Type 0
BodiesAreDrawn =
    (system : System) (p a : ℕ) (process : ProcessSemantics) (action : ActionSemantics) → IsResolved system → IsJudgedSystem system
    → slice_get (semantics_of system).processes p ≡ Some process → slice_get process.actions a ≡ Some action
    → (inputs received : List ℤ) (r : Running) → IsBeginning (semantics_of system) process action inputs received r → CanBeDrawn (leads_from (action.body inputs received) r)
