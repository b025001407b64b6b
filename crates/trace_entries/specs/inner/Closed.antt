-- Entries whose lines have as many words as their keyword says.
use Rattle.std.specs.Prelude.{ℕ, List}
use Rattle.abstract_run.specs.declared.label.Label.TheVariants as label
use Rattle.run_text.specs.declared.names.Names.{Names}
use Rattle.trace_entries.specs.Entries.{AreEntryWords, IsLineOfEntry}
use Rattle.trace_entries.specs.declared.entry.Entry.{Entry}
use Rattle.trace_entries.specs.declared.entry.Entry.TheVariants as entry

-- all but actions, stops and variables
abbrev pub IsClosed : Entry → Type 0
IsClosed (entry.Label (label.Act p a choices)) = ⊥
IsClosed (entry.Label (label.Stop p receivers)) = ⊥
IsClosed (entry.Var p x values) = ⊥
IsClosed _ = Unit {0}

-- The words are those of such an entry.
abbrev pub AreClosedWords : Names → List (List ℕ) → Entry → Type 0
AreClosedWords names words e = IsClosed e × AreEntryWords names words e

-- The line is that of such an entry.
abbrev pub IsClosedLine : Names → List ℕ → Entry → Type 0
IsClosedLine names line e = IsClosed e × IsLineOfEntry names line e
