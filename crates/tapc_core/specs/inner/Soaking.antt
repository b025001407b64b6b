-- What soaking a system leaves.
use Rattle.std.specs.Prelude.{◌≡◌, ⊤, ℕ, List, Option}
use Rattle.tap_base.specs.declared.system.Inputs.{Inputs}
use Rattle.tap_base.specs.declared.system.System.{System}
use Rattle.tapc_core.specs.Lines.{full_line, no_memory_line}
use Rattle.tapc_core.specs.Written.{Writes}
use Rattle.tapc_core.specs.commands.Soak.{IsSoakFull, IsSoakText}
use Rattle.tapc_core.specs.declared.status.Status.{Status}
use Rattle.tapc_core.specs.declared.status.Status.TheVariants.{Done, NoMemory, WorldFull, WriteFault}

-- the text of a run, or how many cells stood in the channels, or that memory was refused
abbrev pub OfRun : ℕ → ℕ → ℕ → System → Inputs → Status → List ℕ → Type 0
OfRun seed faults n system inputs Done bytes = IsSoakText seed faults n system inputs bytes
OfRun seed faults n system inputs WorldFull bytes = (cells : ℕ) × IsSoakFull seed faults n system inputs cells × (bytes ≡ full_line cells)
OfRun seed faults n system inputs NoMemory bytes = bytes ≡ no_memory_line
OfRun seed faults n system inputs _ bytes = ⊥

abbrev pub ClosesSoak : ℕ → ℕ → ℕ → System → Inputs → Option (List ℕ) → Option (List ℕ) → Status → Type 0
ClosesSoak seed faults n system inputs before now r = Writes (OfRun seed faults n system inputs) r before now

-- the answers that soaking gives
abbrev pub IsSoaking : Status → Type 0
IsSoaking Done = ⊤
IsSoaking WriteFault = ⊤
IsSoaking NoMemory = ⊤
IsSoaking WorldFull = ⊤
IsSoaking _ = ⊥
