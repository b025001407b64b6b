-- The command `soak`: a run of a system on a generated schedule, of which the labels are counted.
use Rattle.std.specs.Prelude.{◌≡◌, ⊤, ℕ, ◌<◌, List, ◌++◌, Option}
use Rattle.tap_base.specs.declared.system.Inputs.{Inputs}
use Rattle.tap_base.specs.declared.system.System.{System}
use Rattle.tap_exec.specs.Semantics.{semantics_of}
use Rattle.abstract_run.specs.CellCount.{cells_in}
use Rattle.abstract_run.specs.Opening.{opening_state}
use Rattle.abstract_run.specs.declared.label.Label.{Label}
use Rattle.abstract_run.specs.declared.state.State.{State}
use Rattle.run_text.specs.TraceText.{last_lines, lines_text}
use Rattle.tap_front.specs.Offences.{Offends}
use Rattle.tap_settings.specs.SettingText.{Assignment}
use Rattle.schedule_gen.specs.Schedule.{generated_events}
use Rattle.soak_run.specs.Counted.{IsTallyOf}
use Rattle.soak_run.specs.declared.tally.Tally.{Tally}
use Rattle.world_run.specs.RunsFrom.{IsRunFrom}
use Rattle.world_run.specs.Served.{full_from}
use Rattle.tapc_core.specs.Command.{Command, Contents}
use Rattle.tapc_core.specs.Lines.{full_line, no_memory_line, read_fault_line, tally_text}
use Rattle.tapc_core.specs.Run.{SetsUp}
use Rattle.tapc_core.specs.commands.Settings.{HasInputs, HasMisset, IsUnset}
use Rattle.tapc_core.specs.commands.Text.{HasOffence, leaves_refused, reads_text}
use Rattle.tapc_core.specs.declared.status.Status.{Status}
use Rattle.tapc_core.specs.declared.status.Status.TheVariants.{Done, Refused, ReadFault, WriteFault, NoMemory, WorldFull}

-- what is asked for: the contents of the file, where they are told, the settings of inputs, the seed, how many events, and how
-- many of them may be faults
pub record Load : Type 0 where
  pub text : Option (List ℕ)
  pub settings : List Assignment
  pub seed : ℕ
  pub events : ℕ
  pub faults : ℕ

abbrev pub load_of : List ℕ → ℕ → ℕ → ℕ → List Assignment → Contents → Load
load_of system seed events faults settings contents = record { text = contents system; settings = settings; seed = seed; events = events; faults = faults }

-- ---- runs

-- A run of a system from its opening state on the first n events of its generated schedule, whose choices the seed draws too.
pub record SoakRun (seed faults n : ℕ) (system : System) (inputs : Inputs) : Type 0 where
  pub labels : List Label
  pub last : State
  pub run : IsRunFrom seed (semantics_of system) (opening_state (semantics_of system) inputs) (generated_events system seed n faults) labels last

-- How often its labels came, and then the last value of each variable, and the end.
pub record IsSoakText (seed faults n : ℕ) (system : System) (inputs : Inputs) (bytes : List ℕ) : Type 0 where
  pub soaked : SoakRun seed faults n system inputs
  pub tally : Tally
  pub counted : IsTallyOf (semantics_of system) (opening_state (semantics_of system) inputs) soaked.labels tally
  pub is : bytes ≡ tally_text n tally ++ lines_text (last_lines (semantics_of system) soaked.last)

-- So many cells, more than 99,936, stood in the channels behind fewer events than n.
pub record IsSoakFull (seed faults n : ℕ) (system : System) (inputs : Inputs) (cells : ℕ) : Type 0 where
  pub served : ℕ
  pub fewer : served < n
  pub soaked : SoakRun seed faults served system inputs
  pub many : full_from < cells
  pub counted : cells ≡ cells_in soaked.last

-- ---- what is written

-- The text of the run of the system and the inputs that the file and the settings give.
pub record IsSoaked (load : Load) (bytes : List ℕ) : Type 0 where
  pub system : System
  pub inputs : Inputs
  pub gives : SetsUp load.text load.settings system inputs
  pub text : IsSoakText load.seed load.faults load.events system inputs bytes

-- How many cells stood in its channels where an event was reached with too many.
pub record IsFullSoak (load : Load) (bytes : List ℕ) : Type 0 where
  pub system : System
  pub inputs : Inputs
  pub gives : SetsUp load.text load.settings system inputs
  pub cells : ℕ
  pub full : IsSoakFull load.seed load.faults load.events system inputs cells
  pub is : bytes ≡ full_line cells

abbrev pub OfSoak : Load → Status → List ℕ → Type 0
OfSoak load Done bytes = IsSoaked load bytes
OfSoak load Refused bytes = IsUnset load.text load.settings bytes
OfSoak load ReadFault bytes = bytes ≡ read_fault_line
OfSoak load NoMemory bytes = bytes ≡ no_memory_line
OfSoak load WorldFull bytes = IsFullSoak load bytes
OfSoak load _ bytes = ⊥

-- ---- what is answered

abbrev pub IsOfSoak : Status → Type 0
IsOfSoak Done = ⊤
IsOfSoak Refused = ⊤
IsOfSoak ReadFault = ⊤
IsOfSoak WriteFault = ⊤
IsOfSoak NoMemory = ⊤
IsOfSoak WorldFull = ⊤
IsOfSoak _ = ⊥

-- No event is reached with more than 99,936 cells.
abbrev pub IsNeverFull : Load → Type 0
IsNeverFull load = (bytes : List ℕ) → IsFullSoak load bytes → ⊥

pub data SoakIsSure (load : Load) : Status → Type 0 where
  soaks : HasInputs load.text load.settings → IsNeverFull load → SoakIsSure load Done
  refuses : HasOffence Offends load.text → SoakIsSure load Refused
  missets : HasMisset load.text load.settings → SoakIsSure load Refused

-- ---- the command

-- it has read the text where it is done, or full, or refuses it
abbrev pub reads_load : List ℕ → Status → List (List ℕ)
reads_load system WorldFull = reads_text system Done
reads_load system status = reads_text system status

abbrev pub soak_command : List ℕ → ℕ → ℕ → ℕ → List Assignment → Command
soak_command system seed events faults settings = record {
  answers = IsOfSoak;
  reads = reads_load system;
  writes = λ contents. OfSoak (load_of system seed events faults settings contents);
  is_sure = λ contents. SoakIsSure (load_of system seed events faults settings contents);
  leaves = λ contents. leaves_refused (contents system);
}
