-- How a command ends that judges a trace.
use Rattle.std.specs.Prelude.{ℕ, ⊤, List, Option, Result, Ok, Err}
use Rattle.replay.specs.declared.fault.ReplayFault.{ReplayFault}
use Rattle.replay.specs.declared.fault.ReplayFault.TheVariants as fault
use Rattle.tapc_core.specs.Lines.{bad_line, no_memory_line, no_run_line, read_fault_line, run_line}
use Rattle.tapc_core.specs.inner.Closing.{Closes, ClosesOr}
use Rattle.tapc_core.specs.declared.status.Status.{Status}
use Rattle.tapc_core.specs.declared.status.Status.TheVariants as status

-- with the line of what is answered
abbrev pub ClosesVerdict : Result Unit ReplayFault → Option (List ℕ) → Option (List ℕ) → Status → Type 0
ClosesVerdict (Ok x) before now r = Closes status.Done run_line before now r
ClosesVerdict (Err (fault.BadLine n)) before now r = ClosesOr status.BadSchedule (bad_line n) no_memory_line before now r
ClosesVerdict (Err (fault.NotARun n)) before now r = ClosesOr status.NotARun (no_run_line n) no_memory_line before now r
ClosesVerdict (Err fault.ReadFault) before now r = Closes status.ReadFault read_fault_line before now r
ClosesVerdict (Err fault.NoMemory) before now r = Closes status.NoMemory no_memory_line before now r

-- something is said of the trace
abbrev pub WasJudged : Result Unit ReplayFault → Type 0
WasJudged (Ok x) = ⊤
WasJudged (Err (fault.BadLine n)) = ⊤
WasJudged (Err (fault.NotARun n)) = ⊤
WasJudged (Err fault.ReadFault) = ⊥
WasJudged (Err fault.NoMemory) = ⊥
