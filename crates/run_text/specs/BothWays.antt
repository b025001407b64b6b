-- What is written of an event is read as that event, and what is read is written as it was.
use Rattle.std.specs.Prelude.{◌≡◌, ◌⊎◌, ℕ, List, Result, Ok, Err, length}
use Rattle.abstract_run.specs.declared.label.Event.{Event}
use Rattle.run_text.specs.Names.{AreNames}
use Rattle.run_text.specs.Reads.{Reads}
use Rattle.run_text.specs.ScheduleText.{HasLine, IsLineOf, event_line}
use Rattle.run_text.specs.declared.fault.LineFault.{LineFault}
use Rattle.run_text.specs.declared.fault.LineFault.TheVariants as fault

-- A line is that of at most one event.
abbrev pub OneEvent : Type 0
OneEvent = (names : List (List ℕ)) (line : List ℕ) (e f : Event) → AreNames names → IsLineOf names line e → IsLineOf names line f → e ≡ f

-- A reader of the line that is written of an event answers that event, or it finds no memory.
abbrev pub WrittenIsRead : Type 0
WrittenIsRead = (names : List (List ℕ)) (e : Event) (result : Result Event LineFault) → AreNames names → HasLine (length names) e
    → Reads (IsLineOf names (event_line names e)) result → (result ≡ Ok e) ⊎ (result ≡ Err fault.NoMemory)

-- The line that is written of an event that was read is the line that was read.
abbrev pub ReadIsWritten : Type 0
ReadIsWritten = (names : List (List ℕ)) (line : List ℕ) (e : Event) → Reads (IsLineOf names line) (Ok e) → event_line names e ≡ line
