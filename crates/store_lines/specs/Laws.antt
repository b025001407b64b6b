-- What the definitions of lines promise by themselves.
use Rattle.std.specs.Prelude.{◌≡◌, ◌⊎◌, ◌≤◌, ℕ, List, [], ◌∷◌, ◌++◌, length}
use Rattle.run_text.specs.ScheduleText.{Lacks}
use Rattle.run_text.specs.TraceText.{lines_text}
use Rattle.store_lines.specs.Lines.{BeginsTooLong, BeginsWithLine, most_bytes}

-- A line that is given of these bytes, and the bytes after it.
pub record IsGiven (bytes line after : List ℕ) : Type 0 where
  pub begins : BeginsWithLine bytes line after
  pub whole : Lacks 10 line
  pub short : length line ≤ most_bytes

-- A line is given.
abbrev pub HasLine : List ℕ → Type 0
HasLine bytes = (line after : List ℕ) × IsGiven bytes line after

-- Exactly one is right: a line is given, or it is too long, or no byte is left. And one line is given.
pub record OneAnswer : Type 0 where
  pub some : (bytes : List ℕ) → (bytes ≡ []) ⊎ (BeginsTooLong bytes ⊎ HasLine bytes)
  pub never_short_and_long : (bytes : List ℕ) → HasLine bytes → BeginsTooLong bytes → ⊥
  pub no_line_at_the_end : HasLine [] → ⊥
  pub not_long_at_the_end : BeginsTooLong [] → ⊥
  pub one_line : (bytes line after other behind : List ℕ) → IsGiven bytes line after → IsGiven bytes other behind → (line ≡ other) × (after ≡ behind)

-- These lines are given one after another, and then no byte is left.
abbrev pub AreGiven : List ℕ → List (List ℕ) → Type 0
AreGiven bytes [] = bytes ≡ []
AreGiven bytes (line ∷ lines) = (after : List ℕ) × IsGiven bytes line after × AreGiven after lines

-- Lines that are given to the end are all of the text, each with its line feed, which may be wanting behind the last one;
-- and no others are given.
pub record InOrder : Type 0 where
  pub text : (bytes : List ℕ) (lines : List (List ℕ)) → AreGiven bytes lines → (bytes ≡ lines_text lines) ⊎ (bytes ++ 10 ∷ [] ≡ lines_text lines)
  pub only : (bytes : List ℕ) (lines others : List (List ℕ)) → AreGiven bytes lines → AreGiven bytes others → lines ≡ others
