-- What is read on the way to a setting.
use Rattle.std.specs.Prelude.{◌≡◌, ◌≢◌, ℕ, ◌<◌, ◌⊎◌, List, [], ◌∷◌, slice_index}
use Rattle.tap_base.specs.Lists.{Each}

-- no byte is this one
abbrev pub Lacks : ℕ → List ℕ → Type 0
Lacks byte text = Each (λ b. b ≢ byte) text

-- a digit other than `0`
abbrev pub IsLeadingDigit : ℕ → Type 0
IsLeadingDigit b = (48 < b) × (b < 58)

-- a word that is `0`, or begins with another digit, also behind `-`
abbrev pub BeginsInteger : List ℕ → Type 0
BeginsInteger word = (word ≡ 48 ∷ []) ⊎ (IsLeadingDigit (slice_index word 0) ⊎ ((slice_index word 0 ≡ 45) × IsLeadingDigit (slice_index word 1)))
