-- Which message bytes spell.
use Rattle.std.specs.Prelude.{◌≡◌, ℕ, List, slice_get, Option, Some, None}
use Rattle.tap_base.specs.declared.wire.Wire.{Wire}
use Rattle.tap_base.specs.declared.wire.WireField.{WireField}
use Rattle.byte_meaning.specs.Meaning.{HasReceive}
use Rattle.byte_meaning.specs.Reading.{bits_of, values_by, values_spelled}

-- p receives m from q, and the bytes spell it
pub record IsFound (wire : Wire) (q p : ℕ) (bytes : List ℕ) (m : ℕ) : Type 0 where
  pub received : HasReceive wire p m q
  pub fields : List WireField
  pub declared : slice_get wire.messages m ≡ Some fields
  pub spelled : values_spelled fields bytes ≡ Some (values_by fields (bits_of bytes))

-- such a message, or that they spell none
abbrev pub Finds : Wire → ℕ → ℕ → List ℕ → Option ℕ → Type 0
Finds wire q p bytes (Some m) = IsFound wire q p bytes m
Finds wire q p bytes None = (m : ℕ) (fields : List WireField) → HasReceive wire p m q → slice_get wire.messages m ≡ Some fields → values_spelled fields bytes ≡ None
