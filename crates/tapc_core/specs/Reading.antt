-- What a reading of a name gives.
use Rattle.std.specs.Prelude.{ℕ, ◌+◌, ◌≡◌, ◌≤◌, ◌<◌, List, [], length, take, drop, Option, Some, Result, Ok, Err, IfSome}
use Rattle.tap_front.specs.Accepting.{longest_text}
use Rattle.link_trait.specs.Outside.{Rose}
use Rattle.tapc_core.specs.declared.reading.ReadError.{ReadError}
use Rattle.tapc_core.specs.declared.reading.ReadError.TheVariants.{NoMemory, Failed}
use Rattle.tapc_core.specs.declared.reading.Reading.{Reading}
use Rattle.tapc_core.specs.declared.reading.Reading.TheVariants.{Whole, TooLong}

-- where the contents are told, the first `most` bytes of them were read, and the others are left
abbrev pub ReadsFront : Option (List ℕ) → ℕ → List ℕ → Option (List ℕ) → Type 0
ReadsFront told most bytes left = IfSome told (λ contents. (bytes ≡ take most contents) × (left ≡ Some (drop most contents)))

-- where the contents are told, all of them were read
abbrev pub ReadsWhole : Option (List ℕ) → List ℕ → Option (List ℕ) → Type 0
ReadsWhole told bytes left = IfSome told (λ contents. (bytes ≡ contents) × (left ≡ Some []))

-- where the contents are told, a text was read whole, and of one that is too long the longest text and one byte more
abbrev pub ReadsText : Option (List ℕ) → Reading → Option (List ℕ) → Type 0
ReadsText told (Whole bytes) left = (length bytes ≤ longest_text) × ReadsWhole told bytes left
ReadsText told TooLong left = IfSome told (λ contents. (longest_text < length contents) × (left ≡ Some (drop (longest_text + 1) contents)))

-- where the contents are told, they were read up to and with the byte behind the longest text, and nothing was begun since
abbrev pub LeavesText : Option (List ℕ) → Option (List ℕ) → Type 0
LeavesText told left = IfSome told (λ contents. left ≡ Some (drop (longest_text + 1) contents))

-- the count rose where a call failed, and is as before with every other answer
abbrev pub HasReadCause : {T : Type 0} → ℕ → ℕ → Result T ReadError → Type 0
HasReadCause before now (Ok x) = now ≡ before
HasReadCause before now (Err NoMemory) = now ≡ before
HasReadCause before now (Err Failed) = (before ≤ now) × Rose before now
