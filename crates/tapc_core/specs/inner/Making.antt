-- What making a schedule leaves.
use Rattle.std.specs.Prelude.{◌≡◌, ⊤, ℕ, ◌≤◌, List, ◌++◌, Option}
use Rattle.tap_base.specs.declared.system.System.{System}
use Rattle.schedule_gen.specs.Listed.{made_text}
use Rattle.tapc_core.specs.Lines.{no_memory_line}
use Rattle.tapc_core.specs.Written.{Writes}
use Rattle.tapc_core.specs.declared.status.Status.{Status}
use Rattle.tapc_core.specs.declared.status.Status.TheVariants.{Done, NoMemory, WriteFault}

-- all lines, or those of the first events and that memory was refused
abbrev pub OfLines : System → ℕ → ℕ → ℕ → Status → List ℕ → Type 0
OfLines system seed n faults Done bytes = bytes ≡ made_text system seed n faults
OfLines system seed n faults NoMemory bytes = (k : ℕ) × (k ≤ n) × (bytes ≡ made_text system seed k faults ++ no_memory_line)
OfLines system seed n faults _ bytes = ⊥

abbrev pub ClosesMade : System → ℕ → ℕ → ℕ → Option (List ℕ) → Option (List ℕ) → Status → Type 0
ClosesMade system seed n faults before now r = Writes (OfLines system seed n faults) r before now

-- the answers that making gives
abbrev pub IsMaking : Status → Type 0
IsMaking Done = ⊤
IsMaking WriteFault = ⊤
IsMaking NoMemory = ⊤
IsMaking _ = ⊥
