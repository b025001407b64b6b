-- When messages are told apart by their bytes alone, whatever their values.
use Rattle.std.specs.Prelude.{◌≡◌, ◌≢◌, ◌⊎◌, ℕ, ◌+◌, ◌-◌, ◌/◌, ◌%◌, ◌<◌, ℤ, unsigned_abs, List, ◌++◌, flat_map, map, replicate, slice_get, Option, Some, None}
use Rattle.std.specs.List.{sum_by}
use Rattle.tap_base.specs.declared.wire.WireField.{WireField}
use Rattle.byte_meaning.specs.Spelling.{digits}

-- how many bits the fields take
abbrev pub bit_length : List WireField → ℕ
bit_length fields = sum_by (λ f. f.width) fields

-- how many bytes, with the padding
abbrev pub byte_length : List WireField → ℕ
byte_length fields = (bit_length fields + 7) / 8

-- the bits of a field that are the same whatever its value: those of its fixed value, or none at any place
abbrev pub fixed_bits : ℕ → Option ℤ → List (Option ℕ)
fixed_bits width None = replicate width None
fixed_bits width (Some v) = map Some (digits width (unsigned_abs v))

-- the bits that all spellings of a message have in common; the padding is fixed to 0
abbrev pub pattern : List WireField → List (Option ℕ)
pattern fields = flat_map (λ f. fixed_bits f.width f.fixed) fields ++ replicate ((8 - bit_length fields % 8) % 8) (Some 0)

-- The bit at a place is fixed in both, and they differ there.
pub record DifferAt (one other : List (Option ℕ)) (at : ℕ) : Type 0 where
  pub bit : ℕ
  pub there : slice_get one at ≡ Some (Some bit)
  pub other_bit : ℕ
  pub other_there : slice_get other at ≡ Some (Some other_bit)
  pub differ : bit ≢ other_bit

-- two messages differ in length, or in a bit that is fixed in both
abbrev pub Apart : List WireField → List WireField → Type 0
Apart one other = (byte_length one ≢ byte_length other) ⊎ ((at : ℕ) × DifferAt (pattern one) (pattern other) at)

-- Each two messages that one process receives from one other are told apart.
abbrev pub TellsApart : List (List WireField) → (ℕ → ℕ → ℕ → Type 0) → Type 0
TellsApart messages receives =
    (p q m n : ℕ) (one other : List WireField) → receives p m q → receives p n q → m < n
    → slice_get messages m ≡ Some one → slice_get messages n ≡ Some other → Apart one other
