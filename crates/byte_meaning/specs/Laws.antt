-- What is so of the meaning of bytes, of each record that says what a run asks of a system, and of each wire.
use Rattle.std.specs.Prelude.{◌≡◌, ◌↔◌, ℕ, ℤ, List, slice_get, Some}
use Rattle.tap_base.specs.declared.system.System.{System}
use Rattle.tap_base.specs.declared.wire.Wire.{Wire}
use Rattle.tap_base.specs.declared.wire.WireField.{WireField}
use Rattle.tap_base.specs.Receivers.{HasReceiver}
use Rattle.tap_base.specs.Wires.{wire_of}
use Rattle.byte_meaning.specs.declared.cell.Cell.{Cell}
use Rattle.byte_meaning.specs.declared.cell.Cell.TheVariants as cell
use Rattle.byte_meaning.specs.Messages.{AreFields, Receives}
use Rattle.tap_exec.specs.Semantics.{Semantics, messages_of, semantics_of}
use Rattle.byte_meaning.specs.Spelling.{spelling}
use Rattle.byte_meaning.specs.Apart.{TellsApart}
use Rattle.byte_meaning.specs.Meaning.{HasReceive, Means}
use Rattle.byte_meaning.specs.Reading.{meaning}

-- For a message that p receives from q, its spelling means the message with its values, and nothing else.
abbrev pub SpellingsMean : List (List WireField) → (ℕ → ℕ → ℕ → Type 0) → Type 0
SpellingsMean messages receives =
    (p q m : ℕ) (fields : List WireField) (values : List ℤ) → receives p m q → slice_get messages m ≡ Some fields → AreFields fields values
    → (c : Cell) → Means messages receives q p (spelling fields values) c → c ≡ cell.Msg m values

-- Bytes mean one thing.
abbrev pub OneMeaning : List (List WireField) → (ℕ → ℕ → ℕ → Type 0) → Type 0
OneMeaning messages receives = (p q : ℕ) (bytes : List ℕ) (one other : Cell) → Means messages receives q p bytes one → Means messages receives q p bytes other → one ≡ other

-- Where messages are told apart, both are so.
abbrev pub WiresMean : Type 0
WiresMean = (wire : Wire) → TellsApart wire.messages (HasReceive wire) → SpellingsMean wire.messages (HasReceive wire) × OneMeaning wire.messages (HasReceive wire)

abbrev pub SystemsMean : Type 0
SystemsMean = (semantics : Semantics) → TellsApart semantics.messages (Receives semantics) → SpellingsMean semantics.messages (Receives semantics) × OneMeaning semantics.messages (Receives semantics)

-- A system says who receives what as what a run asks of it does.
abbrev pub SystemsSayTheSame : Type 0
SystemsSayTheSame = (system : System) (p m q : ℕ) → HasReceiver system p m q ↔ Receives (semantics_of system) p m q

-- So does its wire, which has the same messages.
abbrev pub WiresSayTheSame : Type 0
WiresSayTheSame = (system : System) → ((wire_of system).messages ≡ messages_of system) × ((p m q : ℕ) → HasReceive (wire_of system) p m q ↔ Receives (semantics_of system) p m q)

-- What `meaning` gives is what bytes mean.
abbrev pub MeaningIsMeant : Type 0
MeaningIsMeant = (semantics : Semantics) (q p : ℕ) (bytes : List ℕ) → Means semantics.messages (Receives semantics) q p bytes (meaning semantics q p bytes)

-- Where messages are told apart, it gives of the spelling of a message that p receives from q the message with its values.
abbrev pub SpellingsAreRead : Type 0
SpellingsAreRead =
    (semantics : Semantics) (p q m : ℕ) (fields : List WireField) (values : List ℤ) → TellsApart semantics.messages (Receives semantics)
    → Receives semantics p m q → slice_get semantics.messages m ≡ Some fields → AreFields fields values → meaning semantics q p (spelling fields values) ≡ cell.Msg m values
