-- The command `world`: a run of a system on a schedule, with the inputs and the seed that settings give.
use Rattle.std.specs.Prelude.{◌≡◌, ◌⊎◌, ⊤, ℕ, ◌+◌, ◌<◌, List, [], ◌∷◌, ◌++◌, length, Some}
use Rattle.abstract_run.specs.CellCount.{cells_in}
use Rattle.abstract_run.specs.Opening.{opening_state}
use Rattle.tap_exec.specs.Semantics.{semantics_of}
use Rattle.abstract_run.specs.declared.label.Event.{Event}
use Rattle.run_text.specs.OneTrace.{IsTraceOf}
use Rattle.run_text.specs.ScheduleText.{BeginsSchedule, GoesOnAfter, MeetsEvent, SpellsSchedule}
use Rattle.run_text.specs.TraceText.{names_in}
use Rattle.tap_front.specs.Offences.{Offends}
use Rattle.tap_settings.specs.SettingText.{Assignment}
use Rattle.tapc_core.specs.Command.{Command, Contents}
use Rattle.tapc_core.specs.Lines.{bad_line, full_line, no_memory_line, read_fault_line}
use Rattle.tapc_core.specs.Run.{IsOfSchedule, Played, Task, lines_of}
use Rattle.world_run.specs.Served.{full_from}
use Rattle.tapc_core.specs.commands.Settings.{HasInputs, HasMisset, IsUnset}
use Rattle.tapc_core.specs.commands.Text.{HasOffence, leaves_refused}
use Rattle.tapc_core.specs.declared.status.Status.{Status}
use Rattle.tapc_core.specs.declared.status.Status.TheVariants.{Done, Refused, BadSchedule, ReadFault, WriteFault, NoMemory, WorldFull}

-- the two files of these names, the seed, and the settings of inputs
abbrev pub task_of : List ℕ → List ℕ → ℕ → List Assignment → Contents → Task
task_of system schedule seed settings contents = record { text = contents system; schedule = contents schedule; seed = seed; settings = settings }

-- ---- what is written

-- The trace of a run on the whole schedule.
pub record IsTrace (task : Task) (bytes : List ℕ) : Type 0 where
  pub run : Played task
  pub schedule : IsOfSchedule SpellsSchedule run
  pub is : IsTraceOf run.semantics (opening_state run.semantics run.inputs) run.labels bytes

-- The lines of a run on the lines before one that is none, and the number of that line.
pub record IsBadTrace (task : Task) (bytes : List ℕ) : Type 0 where
  pub run : Played task
  pub schedule : IsOfSchedule GoesOnAfter run
  pub lines : List ℕ
  pub shown : lines_of run ≡ Some lines
  pub is : bytes ≡ lines ++ bad_line (length run.events + 1)

-- The lines of a run on the lines before that of an event which is reached with more than 99,936 cells, and how many.
pub record IsFullTrace (task : Task) (bytes : List ℕ) : Type 0 where
  pub run : Played task
  pub schedule : IsOfSchedule MeetsEvent run
  pub many : full_from < cells_in run.last
  pub lines : List ℕ
  pub shown : lines_of run ≡ Some lines
  pub is : bytes ≡ lines ++ full_line (cells_in run.last)

-- The lines of a run on some first lines of the schedule.
pub record IsFrontOfTrace (task : Task) (bytes : List ℕ) : Type 0 where
  pub run : Played task
  pub schedule : IsOfSchedule BeginsSchedule run
  pub is : lines_of run ≡ Some bytes

-- Nothing, or the lines of a run on some first lines of the schedule, and that memory was refused.
pub record IsUnfinished (task : Task) (bytes : List ℕ) : Type 0 where
  pub front : List ℕ
  pub shown : (front ≡ []) ⊎ IsFrontOfTrace task front
  pub is : bytes ≡ front ++ no_memory_line

abbrev pub OfWorld : Task → Status → List ℕ → Type 0
OfWorld task Done bytes = IsTrace task bytes
OfWorld task Refused bytes = IsUnset task.text task.settings bytes
OfWorld task BadSchedule bytes = IsBadTrace task bytes
OfWorld task ReadFault bytes = bytes ≡ read_fault_line
OfWorld task WorldFull bytes = IsFullTrace task bytes
OfWorld task NoMemory bytes = IsUnfinished task bytes
OfWorld task _ bytes = ⊥

-- ---- what is answered

abbrev pub IsOfWorld : Status → Type 0
IsOfWorld Done = ⊤
IsOfWorld Refused = ⊤
IsOfWorld BadSchedule = ⊤
IsOfWorld ReadFault = ⊤
IsOfWorld WriteFault = ⊤
IsOfWorld NoMemory = ⊤
IsOfWorld WorldFull = ⊤
IsOfWorld _ = ⊥

-- the answers that playing a schedule gives
abbrev pub IsPlayed : Status → Type 0
IsPlayed Done = ⊤
IsPlayed BadSchedule = ⊤
IsPlayed WriteFault = ⊤
IsPlayed NoMemory = ⊤
IsPlayed WorldFull = ⊤
IsPlayed _ = ⊥

-- Told files: the text is accepted as a system, the settings give it inputs, and the schedule is of this kind for it and
-- some events.
pub record HasSchedule (Kind : List (List ℕ) → List ℕ → List Event → Type 0) (task : Task) : Type 0 where
  pub start : HasInputs task.text task.settings
  pub schedule : List ℕ
  pub schedule_is : task.schedule ≡ Some schedule
  pub events : List Event
  pub kind : Kind (names_in (semantics_of start.text.system)) schedule events

-- No event of the schedule is reached with more than 99,936 cells.
abbrev pub IsNeverFull : Task → Type 0
IsNeverFull task = (bytes : List ℕ) → IsFullTrace task bytes → ⊥

pub data WorldIsSure (task : Task) : Status → Type 0 where
  plays : HasSchedule SpellsSchedule task → IsNeverFull task → WorldIsSure task Done
  stops : HasSchedule GoesOnAfter task → IsNeverFull task → WorldIsSure task BadSchedule
  refuses : HasOffence Offends task.text → WorldIsSure task Refused
  missets : HasMisset task.text task.settings → WorldIsSure task Refused

-- ---- the command

-- the schedule is read once the text is accepted, and the settings give inputs
abbrev pub reads_both : List ℕ → List ℕ → Status → List (List ℕ)
reads_both system schedule Done = system ∷ schedule ∷ []
reads_both system schedule BadSchedule = system ∷ schedule ∷ []
reads_both system schedule WorldFull = system ∷ schedule ∷ []
reads_both system schedule Refused = system ∷ []
reads_both system schedule _ = []

abbrev pub world_command : List ℕ → List ℕ → ℕ → List Assignment → Command
world_command system schedule seed settings = record {
  answers = IsOfWorld;
  reads = reads_both system schedule;
  writes = λ contents. OfWorld (task_of system schedule seed settings contents);
  is_sure = λ contents. WorldIsSure (task_of system schedule seed settings contents);
  leaves = λ contents. leaves_refused (contents system);
}
