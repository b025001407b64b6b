-- Words at the end of a line, as many as there are values.
use Rattle.std.specs.Prelude.{◌≡◌, ◌<◌, ℕ, ℤ, List, FitsSigned, length, map}
use Rattle.std.specs.Fmt.{signed_decimal}
use Rattle.std.specs.Int.{w64}
use Rattle.tap_base.specs.Lists.{Each}
use Rattle.run_text.specs.TraceText.{name_at}

-- each value has the fact, and its word is what the function gives
abbrev pub AreTail : {A : Type 0} → (A → Type 0) → (A → List ℕ) → List (List ℕ) → List A → Type 0
AreTail Is word words values = Each Is values × (words ≡ map word values)

-- numbers from -2 ^ 63 up to 2 ^ 63 - 1
abbrev pub AreIntegerWords : List (List ℕ) → List ℤ → Type 0
AreIntegerWords words values = AreTail (FitsSigned w64) signed_decimal words values

-- processes, by their names
abbrev pub AreNameWords : List (List ℕ) → List (List ℕ) → List ℕ → Type 0
AreNameWords names words processes = AreTail (λ p. p < length names) (name_at names) words processes
