-- The lines of traces: those of a world and those of a node together.
use Rattle.std.specs.Prelude.{◌≡◌, ◌<◌, ◌^◌, ℕ, List, [], ◌∷◌, FitsSigned, IsSomeAnd, length, map, codes, slice_get}
use Rattle.std.specs.Fmt.{decimal, signed_decimal}
use Rattle.std.specs.Int.{w64}
use Rattle.tap_base.specs.Lists.{Each}
use Rattle.abstract_run.specs.declared.label.Label.{Label}
use Rattle.abstract_run.specs.declared.label.Label.TheVariants as label
use Rattle.run_text.specs.ScheduleText.{AreTwo}
use Rattle.run_text.specs.Sized.{AreBytes, AreDatagram, IsShortNumber, IsSized}
use Rattle.run_text.specs.TraceText.{hex_word, label_words, line_of, name_at}
use Rattle.run_text.specs.declared.names.Names.{Names}
use Rattle.trace_entries.specs.LineNames.{var_names, vars_at}
use Rattle.trace_entries.specs.declared.entry.Entry.{Entry}
use Rattle.trace_entries.specs.declared.entry.Entry.TheVariants as entry

-- the words of the line of an entry
abbrev pub entry_words : Names → Entry → List (List ℕ)
entry_words names (entry.Label l) = label_words names.processes l
entry_words names (entry.Sent p bytes) = codes "sent" ∷ name_at names.processes p ∷ hex_word bytes ∷ []
entry_words names (entry.Got q p bytes) = codes "got" ∷ name_at names.processes q ∷ name_at names.processes p ∷ hex_word bytes ∷ []
entry_words names (entry.Strangers n) = codes "strangers" ∷ decimal n ∷ []
entry_words names (entry.Var p x values) = codes "var" ∷ name_at names.processes p ∷ name_at (var_names (vars_at names p)) x ∷ map signed_decimal values
entry_words names entry.End = codes "end" ∷ []

-- the line of an entry, without its line feed
abbrev pub entry_line : Names → Entry → List ℕ
entry_line names e = line_of (entry_words names e)

-- the labels of so many processes that have a line: numbers are those that their fields hold, and an arrival or a fault
-- is between two different processes
abbrev pub HasLabelLine : ℕ → Label → Type 0
HasLabelLine n (label.Tick p c) = (p < n) × (c < 2 ^ 64)
HasLabelLine n (label.Reject q p i) = (q < n) × (p < n) × IsShortNumber i
HasLabelLine n (label.Act p a choices) = (p < n) × IsShortNumber a × Each (FitsSigned w64) choices
HasLabelLine n (label.Idle p) = p < n
HasLabelLine n (label.Flood p) = p < n
HasLabelLine n (label.Arrive q p) = AreTwo n q p
HasLabelLine n (label.Lose q p i) = AreTwo n q p × IsShortNumber i
HasLabelLine n (label.Copy q p i) = AreTwo n q p × IsShortNumber i
HasLabelLine n (label.Move q p i j) = AreTwo n q p × IsShortNumber i × IsShortNumber j
HasLabelLine n (label.Damage q p i bytes) = AreTwo n q p × IsShortNumber i × AreDatagram bytes
HasLabelLine n (label.Forge q p bytes) = AreTwo n q p × AreDatagram bytes
HasLabelLine n (label.Cut p k) = (p < n) × IsShortNumber k
HasLabelLine n (label.Stop p receivers) = (p < n) × Each (λ q. q < n) receivers
HasLabelLine n (label.Down p) = p < n
HasLabelLine n label.Void = Unit {0}

-- the entries that have a line: a variable has a value for each of its cells
abbrev pub HasEntryLine : Names → Entry → Type 0
HasEntryLine names (entry.Label l) = HasLabelLine (length names.processes) l
HasEntryLine names (entry.Sent p bytes) = (p < length names.processes) × AreBytes bytes
HasEntryLine names (entry.Got q p bytes) = (q < length names.processes) × (p < length names.processes) × AreDatagram bytes
HasEntryLine names (entry.Strangers n) = n < 2 ^ 64
HasEntryLine names (entry.Var p x values) =
    (p < length names.processes) × IsSomeAnd (slice_get (vars_at names p) x) (λ v. length values ≡ v.cells) × Each (FitsSigned w64) values
HasEntryLine names entry.End = Unit {0}

-- The entry has a line, and it is this one.
abbrev pub IsLineOfEntry : Names → List ℕ → Entry → Type 0
IsLineOfEntry names line e = HasEntryLine names e × (line ≡ entry_line names e)

-- The entry has a line, of these words.
abbrev pub AreEntryWords : Names → List (List ℕ) → Entry → Type 0
AreEntryWords names words e = HasEntryLine names e × (words ≡ entry_words names e)

-- the lines of the trace of a node, which is that of this process: its own turns, what it took and gave, its
-- variables and the end
abbrev pub IsOfNode : ℕ → Entry → Type 0
IsOfNode n (entry.Label (label.Tick p c)) = p ≡ n
IsOfNode n (entry.Label (label.Reject q p i)) = p ≡ n
IsOfNode n (entry.Label (label.Act p a choices)) = p ≡ n
IsOfNode n (entry.Label (label.Idle p)) = p ≡ n
IsOfNode n (entry.Label (label.Flood p)) = p ≡ n
IsOfNode n (entry.Label (label.Stop p receivers)) = p ≡ n
IsOfNode n (entry.Label _) = ⊥
IsOfNode n (entry.Sent p bytes) = Unit {0}
IsOfNode n (entry.Got q p bytes) = p ≡ n
IsOfNode n (entry.Strangers k) = Unit {0}
IsOfNode n (entry.Var p x values) = p ≡ n
IsOfNode n entry.End = Unit {0}
