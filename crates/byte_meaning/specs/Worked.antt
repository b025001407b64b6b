-- The meaning of bytes, and messages told apart, worked on small cases.
use Rattle.std.specs.Prelude.{◌≡◌, ℕ, pos, List, [], ◌∷◌, map, Some, None}
use Rattle.tap_base.specs.declared.wire.WireField.{WireField}
use Rattle.byte_meaning.specs.declared.cell.Cell.{Cell}
use Rattle.byte_meaning.specs.declared.cell.Cell.TheVariants as cell
use Rattle.tap_exec.specs.Semantics.{ActionSemantics, Semantics, receive}
use Rattle.byte_meaning.specs.Spelling.{spelling}
use Rattle.byte_meaning.specs.Apart.{Apart}
use Rattle.byte_meaning.specs.Reading.{meaning}

abbrev pub free : ℕ → WireField
free width = record { width = width; fixed = None }

abbrev pub fixed : ℕ → ℕ → WireField
fixed width value = record { width = width; fixed = Some (pos value) }

abbrev pub receiving : ℕ → ActionSemantics
receiving m = record { guard = receive m 0; body = λ inputs received r. Some r }

-- b receives the messages with these numbers from a
abbrev pub hearing : List (List WireField) → List ℕ → Semantics
hearing messages numbers = record {
  messages = messages;
  processes =
      record { name = 97 ∷ []; inputs = []; vars = []; timers = 0; actions = [] }
      ∷ record { name = 98 ∷ []; inputs = []; vars = []; timers = 0; actions = map receiving numbers }
      ∷ [];
}

-- ---- a field of one bit

abbrev pub of_bit : List ℕ → Cell
of_bit bytes = meaning (hearing ((free 1 ∷ []) ∷ []) (0 ∷ [])) 0 1 bytes

abbrev pub OneIsRead : Type 0
OneIsRead = of_bit (128 ∷ []) ≡ cell.Msg 0 (pos 1 ∷ [])

abbrev pub ZeroIsRead : Type 0
ZeroIsRead = of_bit (0 ∷ []) ≡ cell.Msg 0 (pos 0 ∷ [])

-- A bit behind the field is no zero.
abbrev pub PaddingCounts : Type 0
PaddingCounts = of_bit (129 ∷ []) ≡ cell.Error

-- There are too few bytes, or too many.
abbrev pub LengthCounts : Type 0
LengthCounts = (of_bit [] ≡ cell.Error) × (of_bit (128 ∷ 0 ∷ []) ≡ cell.Error)

-- ---- messages with a number of their kind in front

abbrev pub data_fields : List WireField
data_fields = fixed 8 1 ∷ free 1 ∷ free 16 ∷ []

abbrev pub ack_fields : List WireField
ack_fields = fixed 8 2 ∷ free 1 ∷ []

abbrev pub of_kinds : List ℕ → ℕ → ℕ → List ℕ → Cell
of_kinds numbers q p bytes = meaning (hearing (data_fields ∷ ack_fields ∷ []) numbers) q p bytes

abbrev pub DataIsSpelled : Type 0
DataIsSpelled = spelling data_fields (pos 1 ∷ pos 0 ∷ pos 7 ∷ []) ≡ 1 ∷ 0 ∷ 3 ∷ 128 ∷ []

abbrev pub KindsAreRead : Type 0
KindsAreRead =
    (of_kinds (1 ∷ 0 ∷ []) 0 1 (1 ∷ 0 ∷ 3 ∷ 128 ∷ []) ≡ cell.Msg 0 (pos 1 ∷ pos 0 ∷ pos 7 ∷ []))
    × (of_kinds (1 ∷ 0 ∷ []) 0 1 (2 ∷ 128 ∷ []) ≡ cell.Msg 1 (pos 2 ∷ pos 1 ∷ []))

-- A fixed field has another value.
abbrev pub FixedCounts : Type 0
FixedCounts = of_kinds (1 ∷ 0 ∷ []) 0 1 (2 ∷ 0 ∷ 3 ∷ 128 ∷ []) ≡ cell.Error

-- What is not received is an error, and so is what comes from another.
abbrev pub ReceiverCounts : Type 0
ReceiverCounts = (of_kinds (0 ∷ []) 0 1 (2 ∷ 128 ∷ []) ≡ cell.Error) × (of_kinds (1 ∷ 0 ∷ []) 1 0 (2 ∷ 128 ∷ []) ≡ cell.Error)

-- ---- told apart

abbrev pub ByLength : Type 0
ByLength = Apart (free 8 ∷ []) (free 9 ∷ [])

abbrev pub ByFixedBit : Type 0
ByFixedBit = Apart (fixed 8 1 ∷ free 8 ∷ []) (fixed 8 2 ∷ free 8 ∷ [])

abbrev pub ByPadding : Type 0
ByPadding = Apart (free 7 ∷ []) (free 7 ∷ fixed 1 1 ∷ [])

-- A free field has each value that there is room for.
abbrev pub NotByFreeBits : Type 0
NotByFreeBits = (Apart (free 8 ∷ []) (free 8 ∷ []) → ⊥) × (Apart (free 8 ∷ []) (fixed 8 1 ∷ []) → ⊥)
