-- The spelling of a message: its bytes.
use Rattle.std.specs.Prelude.{ℕ, zero, suc, ◌+◌, ◌-◌, ◌*◌, ◌/◌, ◌%◌, ◌^◌, ℤ, List, [], ◌∷◌, ◌++◌, length, replicate, unsigned_abs, Option, slice_get}
use Rattle.std.specs.Option.{option_map}
use Rattle.tap_exec.specs.Semantics.{Semantics}
use Rattle.tap_base.specs.declared.wire.WireField.{WireField}

-- the lowest binary digits of a number, so many, the most significant first
abbrev pub digits : ℕ → ℕ → List ℕ
digits zero n = []
digits (suc w) n = n / 2 ^ w % 2 ∷ digits w n

-- the digits of all fields, in order of declaration
abbrev pub all_digits : List WireField → List ℤ → List ℕ
all_digits (f ∷ fs) (x ∷ xs) = digits f.width (unsigned_abs x) ++ all_digits fs xs
all_digits _ _ = []

-- with zeros behind, up to a whole byte
abbrev pub padded : List ℕ → List ℕ
padded bits = bits ++ replicate ((8 - length bits % 8) % 8) 0

-- a byte for each group of eight
abbrev pub grouped : List ℕ → List ℕ
grouped (a ∷ b ∷ c ∷ d ∷ e ∷ f ∷ g ∷ h ∷ bits) = (128 * a + 64 * b + 32 * c + 16 * d + 8 * e + 4 * f + 2 * g + h) ∷ grouped bits
grouped _ = []

-- the bytes of a message with these fields and these values
abbrev pub spelling : List WireField → List ℤ → List ℕ
spelling fields values = grouped (padded (all_digits fields values))

-- the bytes of the message of a number, where there is one
abbrev pub spelled : Semantics → ℕ → List ℤ → Option (List ℕ)
spelled semantics m values = option_map (λ fields. spelling fields values) (slice_get semantics.messages m)
