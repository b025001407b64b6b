-- How a run ends.
use Rattle.std.specs.Prelude.{◌≡◌, ◌⊎◌, ℕ, List, ◌++◌, Option}
use Rattle.std.specs.Io.KnownBytes.{Appends}
use Rattle.tapc_core.specs.declared.status.Status.{Status}
use Rattle.tapc_core.specs.declared.status.Status.TheVariants.{NoMemory, WriteFault}

-- The bytes were put and the status is answered, or a put failed after a front of them.
pub data Closes (status : Status) (bytes : List ℕ) (before now : Option (List ℕ)) : Status → Type 0 where
  put : Appends before now bytes → Closes status bytes before now status
  failed : (front rest : List ℕ) → front ++ rest ≡ bytes → Appends before now front → Closes status bytes before now WriteFault

-- The run closed with a status and its bytes, or memory was refused and it closed with other bytes.
abbrev pub ClosesOr : Status → List ℕ → List ℕ → Option (List ℕ) → Option (List ℕ) → Status → Type 0
ClosesOr status bytes refused before now r = Closes status bytes before now r ⊎ Closes NoMemory refused before now r
