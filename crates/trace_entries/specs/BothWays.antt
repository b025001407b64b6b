-- What is written of an entry is read as that entry, and what is read is written as it was.
use Rattle.std.specs.Prelude.{◌≡◌, ◌⊎◌, ℕ, List, Result, Ok, Err}
use Rattle.run_text.specs.Reads.{Reads}
use Rattle.run_text.specs.declared.fault.LineFault.{LineFault}
use Rattle.run_text.specs.declared.fault.LineFault.TheVariants as fault
use Rattle.run_text.specs.declared.names.Names.{Names}
use Rattle.trace_entries.specs.Entries.{HasEntryLine, IsLineOfEntry, entry_line}
use Rattle.trace_entries.specs.LineNames.{AreLineNames}
use Rattle.trace_entries.specs.declared.entry.Entry.{Entry}

-- A line is that of at most one entry.
abbrev pub OneEntry : Type 0
OneEntry = (names : Names) (line : List ℕ) (x y : Entry) → AreLineNames names → IsLineOfEntry names line x → IsLineOfEntry names line y → x ≡ y

-- A reader of the line that is written of an entry answers that entry, or it finds no memory.
abbrev pub WrittenIsRead : Type 0
WrittenIsRead = (names : Names) (x : Entry) (result : Result Entry LineFault) → AreLineNames names → HasEntryLine names x
    → Reads (IsLineOfEntry names (entry_line names x)) result → (result ≡ Ok x) ⊎ (result ≡ Err fault.NoMemory)

-- The line that is written of an entry that was read is the line that was read.
abbrev pub ReadIsWritten : Type 0
ReadIsWritten = (names : Names) (line : List ℕ) (x : Entry) → Reads (IsLineOfEntry names line) (Ok x) → entry_line names x ≡ line
