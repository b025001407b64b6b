-- What was written with a status, where every put succeeds and where one fails.
use Rattle.std.specs.Prelude.{◌≡◌, ℕ, List, ◌++◌, Option}
use Rattle.std.specs.Io.KnownBytes.{Appends}
use Rattle.tapc_core.specs.declared.status.Status.{Status}
use Rattle.tapc_core.specs.declared.status.Status.TheVariants.{WriteFault}

-- A front of what is written with some status.
pub record IsPartOf (Kind : Status → List ℕ → Type 0) (bytes : List ℕ) : Type 0 where
  pub status : Status
  pub whole : List ℕ
  pub output : Kind status whole
  pub rest : List ℕ
  pub front : bytes ++ rest ≡ whole

-- What was put between two moments, where it is told, is of this kind.
pub record Puts (Kind : List ℕ → Type 0) (before after : Option (List ℕ)) : Type 0 where
  pub bytes : List ℕ
  pub told : Appends before after bytes
  pub kind : Kind bytes

-- What is written with each status: its output, or where a put fails a front of some output.
abbrev pub IsWritten : (Status → List ℕ → Type 0) → Status → List ℕ → Type 0
IsWritten Kind WriteFault bytes = IsPartOf Kind bytes
IsWritten Kind status bytes = Kind status bytes

abbrev pub Writes : (Status → List ℕ → Type 0) → Status → Option (List ℕ) → Option (List ℕ) → Type 0
Writes Kind status before after = Puts (IsWritten Kind status) before after
