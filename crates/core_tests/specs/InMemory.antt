-- A run over a store and a sink in memory, where everything is told.
use Rattle.std.specs.Prelude.{◌≡◌, ℕ, List, ◌++◌, Some}
use Rattle.tap_base.specs.declared.system.Inputs.{Inputs}
use Rattle.abstract_run.specs.Opening.{opening_state}
use Rattle.tap_exec.specs.Semantics.{Semantics}
use Rattle.abstract_run.specs.declared.label.Event.{Event}
use Rattle.abstract_run.specs.declared.label.Label.{Label}
use Rattle.abstract_run.specs.declared.state.State.{State}
use Rattle.run_text.specs.OneTrace.{IsTraceOf}
use Rattle.run_text.specs.ScheduleText.{SpellsSchedule}
use Rattle.run_text.specs.TraceText.{names_in}
use Rattle.tap_settings.specs.SettingText.{Assignment}
use Rattle.link_trait.specs.Entries.{contents_of}
use Rattle.link_trait.specs.MemorySink.{SinkValue}
use Rattle.link_trait.specs.MemoryStore.{StoreValue}
use Rattle.tapc_core.specs.Run.{Gives}
use Rattle.world_run.specs.RunsFrom.{IsRunFrom}
use Rattle.timed_runs.specs.Delays.{IsTimeout, KeepsDelay}

-- The bytes are the trace of labels that answer the events of a schedule, in what a text and settings give, with the draws
-- of a seed, and that keep each delay.
pub record IsTraceOfRun (text schedule : List ℕ) (seed : ℕ) (settings : List Assignment) (bytes : List ℕ) : Type 0 where
  pub semantics : Semantics
  pub inputs : Inputs
  pub gives : Gives text settings semantics inputs
  pub events : List Event
  pub spelled : SpellsSchedule (names_in semantics) schedule events
  pub labels : List Label
  pub last : State
  pub run : IsRunFrom seed semantics (opening_state semantics inputs) events labels last
  pub delays : (p t k : ℕ) → IsTimeout semantics (opening_state semantics inputs) labels p t k → KeepsDelay semantics (opening_state semantics inputs) labels p t k
  pub is : IsTraceOf semantics (opening_state semantics inputs) labels bytes

-- The store has both files, and the sink took the trace of their run behind what it had.
pub record TookTrace (system schedule : List ℕ) (seed : ℕ) (settings : List Assignment) (store : StoreValue) (old new : SinkValue) : Type 0 where
  pub text : List ℕ
  pub text_is : contents_of store.entries system ≡ Some text
  pub lines : List ℕ
  pub lines_are : contents_of store.entries schedule ≡ Some lines
  pub bytes : List ℕ
  pub trace : IsTraceOfRun text lines seed settings bytes
  pub took : new.written ≡ old.written ++ bytes
