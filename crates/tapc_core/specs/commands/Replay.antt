-- The command `replay`: whether a file is the trace of a run of a system, with the inputs that settings give.
use Rattle.std.specs.Prelude.{◌≡◌, ⊤, ℕ, List, [], ◌∷◌, IfSome, Option, Some, Result, Ok, Err}
use Rattle.tap_base.specs.declared.system.Inputs.{Inputs}
use Rattle.tap_exec.specs.Semantics.{Semantics, semantics_of}
use Rattle.abstract_run.specs.Opening.{opening_state}
use Rattle.tap_front.specs.Offences.{Offends}
use Rattle.tap_settings.specs.SettingText.{Assignment}
use Rattle.replay.specs.Traces.{Judges}
use Rattle.replay.specs.declared.fault.ReplayFault.{ReplayFault}
use Rattle.replay.specs.declared.fault.ReplayFault.TheVariants as fault
use Rattle.tapc_core.specs.Command.{Command, Contents}
use Rattle.tapc_core.specs.Lines.{bad_line, no_memory_line, no_run_line, read_fault_line, run_line}
use Rattle.tapc_core.specs.Run.{FileGives}
use Rattle.tapc_core.specs.commands.Settings.{HasInputs, HasMisset, IsUnset}
use Rattle.tapc_core.specs.commands.Text.{HasOffence, leaves_refused}
use Rattle.tapc_core.specs.declared.status.Status.{Status}
use Rattle.tapc_core.specs.declared.status.Status.TheVariants.{Done, Refused, BadSchedule, ReadFault, WriteFault, NoMemory, NotARun}

-- what is judged: the contents of the two files, where they are told, and the settings of inputs
pub record Trial : Type 0 where
  pub text : Option (List ℕ)
  pub trace : Option (List ℕ)
  pub settings : List Assignment

-- the two files of these names, and the settings
abbrev pub trial_of : List ℕ → List ℕ → List Assignment → Contents → Trial
trial_of system trace settings contents = record { text = contents system; trace = contents trace; settings = settings }

-- ---- what is written

-- What is answered of the trace, where it is told: whether it is one of a run from the opening state that the file of the
-- system and the settings give.
pub record Judged (trial : Trial) (verdict : Result Unit ReplayFault) : Type 0 where
  pub semantics : Semantics
  pub inputs : Inputs
  pub gives : FileGives trial.text trial.settings semantics inputs
  pub judged : IfSome trial.trace (λ text. Judges semantics (opening_state semantics inputs) text verdict)

-- The trace is one of a run.
abbrev pub IsRunTrace : Trial → List ℕ → Type 0
IsRunTrace trial bytes = Judged trial (Ok tt) × (bytes ≡ run_line)

-- The number of its first line that is none.
abbrev pub IsBadAt : Trial → List ℕ → Type 0
IsBadAt trial bytes = (n : ℕ) × Judged trial (Err (fault.BadLine n)) × (bytes ≡ bad_line n)

-- The number of its first line that no run goes on with.
abbrev pub IsNoRunAt : Trial → List ℕ → Type 0
IsNoRunAt trial bytes = (n : ℕ) × Judged trial (Err (fault.NotARun n)) × (bytes ≡ no_run_line n)

abbrev pub OfReplay : Trial → Status → List ℕ → Type 0
OfReplay trial Done bytes = IsRunTrace trial bytes
OfReplay trial Refused bytes = IsUnset trial.text trial.settings bytes
OfReplay trial BadSchedule bytes = IsBadAt trial bytes
OfReplay trial NotARun bytes = IsNoRunAt trial bytes
OfReplay trial ReadFault bytes = bytes ≡ read_fault_line
OfReplay trial NoMemory bytes = bytes ≡ no_memory_line
OfReplay trial _ bytes = ⊥

-- ---- what is answered

abbrev pub IsOfReplay : Status → Type 0
IsOfReplay Done = ⊤
IsOfReplay Refused = ⊤
IsOfReplay BadSchedule = ⊤
IsOfReplay ReadFault = ⊤
IsOfReplay WriteFault = ⊤
IsOfReplay NoMemory = ⊤
IsOfReplay NotARun = ⊤
IsOfReplay _ = ⊥

-- Told files: the text is accepted as a system, the settings give it inputs, and this is what is to be said of the trace.
pub record HasVerdict (trial : Trial) (verdict : Result Unit ReplayFault) : Type 0 where
  pub start : HasInputs trial.text trial.settings
  pub trace : List ℕ
  pub trace_is : trial.trace ≡ Some trace
  pub judged : Judges (semantics_of start.text.system) (opening_state (semantics_of start.text.system) start.inputs) trace verdict

pub data ReplayIsSure (trial : Trial) : Status → Type 0 where
  runs : HasVerdict trial (Ok tt) → ReplayIsSure trial Done
  breaks : (n : ℕ) → HasVerdict trial (Err (fault.BadLine n)) → ReplayIsSure trial BadSchedule
  strays : (n : ℕ) → HasVerdict trial (Err (fault.NotARun n)) → ReplayIsSure trial NotARun
  refuses : HasOffence Offends trial.text → ReplayIsSure trial Refused
  missets : HasMisset trial.text trial.settings → ReplayIsSure trial Refused

-- ---- the command

-- the trace is read once the text is accepted, and the settings give inputs
abbrev pub reads_trace : List ℕ → List ℕ → Status → List (List ℕ)
reads_trace system trace Done = system ∷ trace ∷ []
reads_trace system trace BadSchedule = system ∷ trace ∷ []
reads_trace system trace NotARun = system ∷ trace ∷ []
reads_trace system trace Refused = system ∷ []
reads_trace system trace _ = []

abbrev pub replay_command : List ℕ → List ℕ → List Assignment → Command
replay_command system trace settings = record {
  answers = IsOfReplay;
  reads = reads_trace system trace;
  writes = λ contents. OfReplay (trial_of system trace settings contents);
  is_sure = λ contents. ReplayIsSure (trial_of system trace settings contents);
  leaves = λ contents. leaves_refused (contents system);
}
