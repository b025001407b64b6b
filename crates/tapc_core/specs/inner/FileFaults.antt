-- Why there is nothing to work on.
use Rattle.std.specs.Prelude.{ℕ, ◌≡◌, ◌≤◌, ⊤, List, Option, Result, Ok, Err}
use Rattle.tap_front.specs.Lines.{refused_line}
use Rattle.tapc_core.specs.Lines.{no_memory_line, read_fault_line}
use Rattle.link_trait.specs.Outside.{Rose}
use Rattle.tapc_core.specs.inner.Closing.{Closes, ClosesOr}
use Rattle.tapc_core.specs.declared.status.Status.{Status}
use Rattle.tapc_core.specs.declared.status.Status.TheVariants as status
use Rattle.tapc_core.specs.declared.files.FileFault.{FileFault}
use Rattle.tapc_core.specs.declared.files.FileFault.TheVariants.{Refused, ReadFault, NoMemory}
use Rattle.tapc_core.specs.declared.reading.ReadError.{ReadError}
use Rattle.tapc_core.specs.declared.reading.ReadError.TheVariants as error
use Rattle.tap_front.specs.declared.texts.TextFault.{TextFault}
use Rattle.tap_front.specs.declared.texts.TextFault.TheVariants as text

-- what follows from a reading that failed
abbrev pub unread : ReadError → FileFault
unread error.NoMemory = NoMemory
unread error.Failed = ReadFault

-- what follows from a text that is not accepted
abbrev pub unaccepted : TextFault → FileFault
unaccepted (text.Refused offence) = Refused offence
unaccepted text.NoMemory = NoMemory

-- a text was read, whatever came of it
abbrev pub WasRead : {T : Type 0} → Result T FileFault → Type 0
WasRead (Ok x) = ⊤
WasRead (Err (Refused offence)) = ⊤
WasRead (Err ReadFault) = ⊥
WasRead (Err NoMemory) = ⊥

-- the count of the store rose where a call of it failed, and is as before with every other answer
abbrev pub HasFileCause : {T : Type 0} → ℕ → ℕ → Result T FileFault → Type 0
HasFileCause before now (Ok x) = now ≡ before
HasFileCause before now (Err (Refused offence)) = now ≡ before
HasFileCause before now (Err ReadFault) = (before ≤ now) × Rose before now
HasFileCause before now (Err NoMemory) = now ≡ before

-- how a command ends that has nothing to work on
abbrev pub GivesUp : FileFault → Option (List ℕ) → Option (List ℕ) → Status → Type 0
GivesUp (Refused offence) before now r = ClosesOr status.Refused (refused_line offence) no_memory_line before now r
GivesUp ReadFault before now r = Closes status.ReadFault read_fault_line before now r
GivesUp NoMemory before now r = Closes status.NoMemory no_memory_line before now r
