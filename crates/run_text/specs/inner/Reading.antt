-- What is read on the way to a number.
use Rattle.std.specs.Prelude.{◌≡◌, ℕ, ◌<◌, ◌⊎◌, List, [], ◌∷◌, slice_index}

-- a word that is `0` or begins with another digit
abbrev pub BeginsNumber : List ℕ → Type 0
BeginsNumber word = (word ≡ 48 ∷ []) ⊎ ((48 < slice_index word 0) × (slice_index word 0 < 58))

-- a word that begins as a number does, or with a minus and a digit that is not `0`
abbrev pub BeginsInteger : List ℕ → Type 0
BeginsInteger word = BeginsNumber word ⊎ ((slice_index word 0 ≡ 45) × (48 < slice_index word 1) × (slice_index word 1 < 58))
