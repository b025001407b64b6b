-- Wires that can be asked for a layout, and messages that are not too long.
use Rattle.std.specs.Prelude.{◌≡◌, ℕ, ◌<◌, ◌≤◌, ◌^◌, pos, ◌≤ℤ◌, ◌<ℤ◌, List, length, slice_get, Some, IfSome}
use Rattle.tap_base.specs.declared.wire.Wire.{Wire}
use Rattle.tap_base.specs.declared.wire.WireField.{WireField}
use Rattle.tap_base.specs.Lists.{Each}
use Rattle.byte_meaning.specs.Apart.{bit_length}

-- a width from 1 to 63, and a fixed value that it has room for
pub record IsField (f : WireField) : Type 0 where
  pub some_bits : 0 < f.width
  pub few_bits : f.width < 64
  pub fixed : IfSome f.fixed (λ v. (pos 0 ≤ℤ v) × (v <ℤ pos (2 ^ f.width)))

-- Fewer than 2 ^ 32 messages, of such fields; and what is received is one of them.
pub record IsWire (wire : Wire) : Type 0 where
  pub few : length wire.messages < 2 ^ 32
  pub fields : Each (λ fields. Each IsField fields) wire.messages
  pub received : Each (λ r. r.message < length wire.messages) wire.receives

-- how many bits a message has at most
abbrev pub most_bits : ℕ
most_bits = 8192

-- no message has more
abbrev pub AreShort : List (List WireField) → Type 0
AreShort messages = Each (λ fields. bit_length fields ≤ most_bits) messages

-- m is the first message that has more
pub record IsFirstLong (messages : List (List WireField)) (m : ℕ) : Type 0 where
  pub fields : List WireField
  pub there : slice_get messages m ≡ Some fields
  pub long : most_bits < bit_length fields
  pub first : (k : ℕ) (earlier : List WireField) → k < m → slice_get messages k ≡ Some earlier → bit_length earlier ≤ most_bits
