-- The words of a line, and what each says.
use Rattle.std.specs.Prelude.{◌≡◌, ◌<◌, ◌≤◌, ◌^◌, ◌==◌, ℕ, ℤ, List, [], FitsSigned, Option, None, Some, length}
use Rattle.std.specs.Borrow.{Bor}
use Rattle.std.specs.Fmt.{decimal, signed_decimal}
use Rattle.std.specs.Int.{w64}
use Rattle.std.specs.List.{slice_split}
use Rattle.run_text.specs.ScheduleText.{AreTwo}
use Rattle.run_text.specs.Sized.{AreBytes, AreDatagram, IsShortNumber}
use Rattle.run_text.specs.TraceText.{hex_word, name_at}

-- the words of a line: what stands between its spaces
abbrev pub words_of : List ℕ → List (List ℕ)
words_of line = slice_split (λ b. b == 32) line

-- the words of what is left of a line; none where nothing is left
abbrev pub words_left : Option (Bor (List ℕ)) → List (List ℕ)
words_left None = []
words_left (Some rest) = words_of rest.now

-- ---- a word, and what it says

-- a number of 64 bits
abbrev pub IsLongWord : List ℕ → ℕ → Type 0
IsLongWord word n = (n < 2 ^ 64) × (word ≡ decimal n)

-- a number of 32 bits
abbrev pub IsShortWord : List ℕ → ℕ → Type 0
IsShortWord word n = IsShortNumber n × (word ≡ decimal n)

abbrev pub IsWordUpTo : ℕ → List ℕ → ℕ → Type 0
IsWordUpTo most word n = (n ≤ most) × (word ≡ decimal n)

-- a number from -2 ^ 63 up to 2 ^ 63 - 1
abbrev pub IsIntegerWord : List ℕ → ℤ → Type 0
IsIntegerWord word z = FitsSigned w64 z × (word ≡ signed_decimal z)

-- the number of a process, by its name
abbrev pub IsNameWord : List (List ℕ) → List ℕ → ℕ → Type 0
IsNameWord names word p = (p < length names) × (word ≡ name_at names p)

-- the numbers of two different processes, by their names
abbrev pub AreTwoWords : List (List ℕ) → List ℕ → List ℕ → ℕ → ℕ → Type 0
AreTwoWords names sender receiver q p = AreTwo (length names) q p × (sender ≡ name_at names q) × (receiver ≡ name_at names p)

-- bytes
abbrev pub IsBytesWord : List ℕ → List ℕ → Type 0
IsBytesWord word bytes = AreBytes bytes × (word ≡ hex_word bytes)

-- at most 2,048 bytes
abbrev pub IsDatagramWord : List ℕ → List ℕ → Type 0
IsDatagramWord word bytes = AreDatagram bytes × (word ≡ hex_word bytes)
