-- What bytes mean. Nothing here says how bytes are read.
use Rattle.std.specs.Prelude.{◌≡◌, ℕ, ℤ, List, slice_get, Some}
use Rattle.std.specs.List.{Contains}
use Rattle.tap_base.specs.declared.wire.Wire.{Wire}
use Rattle.tap_base.specs.declared.wire.WireField.{WireField}
use Rattle.byte_meaning.specs.declared.cell.Cell.{Cell}
use Rattle.byte_meaning.specs.declared.cell.Cell.TheVariants as cell
use Rattle.byte_meaning.specs.Messages.{AreFields}
use Rattle.byte_meaning.specs.Spelling.{spelling}

-- The bytes are the spelling of the message numbered m with these values: one for each field, within its range.
pub record Spells (messages : List (List WireField)) (m : ℕ) (values : List ℤ) (bytes : List ℕ) : Type 0 where
  pub fields : List WireField
  pub declared : slice_get messages m ≡ Some fields
  pub fitting : AreFields fields values
  pub spelled : spelling fields values ≡ bytes

-- Bytes from q to p mean the message that they spell, of those that p receives from q, and an error where they spell none.
-- `receives p m q` is to say that p receives m from q: `Receives` of a record that says what a run asks of a system,
-- `HasReceiver` of a system, or `HasReceive` of a wire.
abbrev pub Means : List (List WireField) → (ℕ → ℕ → ℕ → Type 0) → ℕ → ℕ → List ℕ → Cell → Type 0
Means messages receives q p bytes (cell.Msg m values) = receives p m q × Spells messages m values bytes
Means messages receives q p bytes cell.Error = (m : ℕ) (values : List ℤ) → receives p m q → Spells messages m values bytes → ⊥

-- a wire says that p receives m from q
abbrev pub HasReceive : Wire → ℕ → ℕ → ℕ → Type 0
HasReceive wire p m q = Contains wire.receives (record { by = p; from = q; message = m })
