-- A run of what a file and settings say, on a schedule.
use Rattle.std.specs.Prelude.{◌≡◌, ℕ, List, Option, Some, IfSome}
use Rattle.std.specs.Option.{option_map}
use Rattle.tap_base.specs.declared.system.Inputs.{Inputs}
use Rattle.tap_base.specs.declared.system.System.{System}
use Rattle.abstract_run.specs.Opening.{opening_state}
use Rattle.tap_exec.specs.Semantics.{Semantics, semantics_of}
use Rattle.abstract_run.specs.declared.label.Event.{Event}
use Rattle.abstract_run.specs.declared.label.Label.{Label}
use Rattle.abstract_run.specs.declared.state.State.{State}
use Rattle.run_text.specs.TraceText.{lines_text, names_in, run_lines}
use Rattle.tap_front.specs.Accepting.{Accepted}
use Rattle.tap_settings.specs.GivenInputs.{inputs_given}
use Rattle.tap_settings.specs.SettingText.{Assignment}
use Rattle.timed_runs.specs.Delays.{IsTimeout, KeepsDelay}
use Rattle.world_run.specs.RunsFrom.{IsRunFrom}

-- The file holds a text that is accepted as the system, whether or not that is told.
pub record HoldsSystem (told : Option (List ℕ)) (system : System) : Type 0 where
  pub text : List ℕ
  pub text_is : IfSome told (λ t. t ≡ text)
  pub runs : Accepted text system

-- The file holds a system, and the settings give it these inputs.
pub record SetsUp (told : Option (List ℕ)) (settings : List Assignment) (system : System) (inputs : Inputs) : Type 0 where
  pub holds : HoldsSystem told system
  pub given : inputs_given system settings ≡ Some inputs

-- The text gives the record, and with the settings the inputs: it is accepted as a system that says this, for which the
-- settings give these.
pub record Gives (text : List ℕ) (settings : List Assignment) (semantics : Semantics) (inputs : Inputs) : Type 0 where
  pub system : System
  pub runs : Accepted text system
  pub says : semantics ≡ semantics_of system
  pub given : inputs_given system settings ≡ Some inputs

-- The file gives them with the settings: what it holds is a text that does, whether or not that is told.
pub record FileGives (told : Option (List ℕ)) (settings : List Assignment) (semantics : Semantics) (inputs : Inputs) : Type 0 where
  pub text : List ℕ
  pub text_is : IfSome told (λ t. t ≡ text)
  pub gives : Gives text settings semantics inputs

-- what a run is given: the contents of its two files, where they are told, the seed, and the settings of inputs
pub record Task : Type 0 where
  pub text : Option (List ℕ)
  pub schedule : Option (List ℕ)
  pub seed : ℕ
  pub settings : List Assignment

-- What the file of the system and the settings give, and a run of it on some events, from its opening state. In this run
-- no timeout comes before its delay.
pub record Played (task : Task) : Type 0 where
  pub semantics : Semantics
  pub inputs : Inputs
  pub gives : FileGives task.text task.settings semantics inputs
  pub events : List Event
  pub labels : List Label
  pub last : State
  pub run : IsRunFrom task.seed semantics (opening_state semantics inputs) events labels last
  pub delays : (p t k : ℕ) → IsTimeout semantics (opening_state semantics inputs) labels p t k → KeepsDelay semantics (opening_state semantics inputs) labels p t k

-- the text of the lines of the labels of a run, and of its datagrams
abbrev pub lines_of : {task : Task} → Played task → Option (List ℕ)
lines_of r = option_map lines_text (run_lines r.semantics (opening_state r.semantics r.inputs) r.labels)

-- The schedule is of this kind for the events of a run, where it is told.
abbrev pub IsOfSchedule : {task : Task} → (List (List ℕ) → List ℕ → List Event → Type 0) → Played task → Type 0
IsOfSchedule {task = task} Kind r = IfSome task.schedule (λ text. Kind (names_in r.semantics) text r.events)
