-- The lines of what is left of a store, one after another.
use Rattle.std.specs.Prelude.{◌≡◌, ◌≢◌, ◌⊎◌, ◌<◌, ◌≤◌, ℕ, List, [], ◌∷◌, ◌++◌, length, Option, Some, None}
use Rattle.std.specs.Option.{option_map}
use Rattle.link_trait.specs.Calls.{counted}
use Rattle.link_trait.specs.Outside.{Rose}
use Rattle.run_text.specs.ScheduleText.{IsFirstLine, Lacks}
use Rattle.store_lines.specs.declared.answer.NextLine.{NextLine}
use Rattle.store_lines.specs.declared.answer.NextLine.TheVariants as next
use Rattle.store_lines.specs.declared.answer.Stop.{Stop}
use Rattle.store_lines.specs.declared.answer.Stop.TheVariants as stop

-- how many bytes a line has at most
abbrev pub most_bytes : ℕ
most_bytes = 33554432

pub record LinesValue : Type 0 where
  -- the bytes that were read and not given yet
  pub held : List ℕ
  -- the line that was given last, without its line feed
  pub line : List ℕ
  -- its number, counted from 1
  pub number : ℕ
  -- why no further line is given
  pub stopped : Option Stop

-- before the first line
abbrev pub no_lines : LinesValue
no_lines = record { held = []; line = []; number = 0; stopped = None }

-- ---- what is still to come

-- the bytes that are still to come, where told: those that are held, and then what is left of the store
abbrev pub coming : List ℕ → Option (List ℕ) → Option (List ℕ)
coming held left = option_map (λ rest. held ++ rest) left

-- The line stands before a line feed, with the bytes `after` behind it; or it is all, and is not empty.
abbrev pub BeginsWithLine : List ℕ → List ℕ → List ℕ → Type 0
BeginsWithLine bytes line after = (bytes ≡ line ++ 10 ∷ after) ⊎ ((bytes ≡ line) × (line ≢ []) × (after ≡ []))

-- The first line has more bytes than a line may have.
pub record BeginsTooLong (bytes : List ℕ) : Type 0 where
  pub line : List ℕ
  pub behind : List ℕ
  pub first : IsFirstLine bytes line behind
  pub whole : Lacks 10 line
  pub long : most_bytes < length line

-- What the answer tells of the bytes that were to come, with the line that is given, and what comes after it.
abbrev pub Tells : List ℕ → NextLine → List ℕ → Option (List ℕ) → Type 0
Tells bytes next.Line line after = (behind : List ℕ) × BeginsWithLine bytes line behind × (after ≡ Some behind)
Tells bytes next.End line after = (bytes ≡ []) × (after ≡ Some [])
Tells bytes next.TooLong line after = BeginsTooLong bytes
Tells bytes next.ReadFault line after = (front rest : List ℕ) × (bytes ≡ front ++ rest) × Lacks 10 front × (after ≡ Some rest)
Tells bytes next.NoMemory line after = Unit {0}

-- ---- what a call leaves

-- nothing is kept, and no further line is given
abbrev pub stopped_by : Stop → LinesValue → LinesValue
stopped_by why old = record { held = []; line = []; number = old.number; stopped = Some why }

-- A line is given: it has no line feed and not too many bytes, and the next number.
pub record GivesLine (old new : LinesValue) : Type 0 where
  pub whole : Lacks 10 new.line
  pub short : length new.line ≤ most_bytes
  pub number : new.number ≡ counted old.number
  pub going : new.stopped ≡ None

-- a line is given, or nothing changes at the end, or it stops
abbrev pub Leaves : LinesValue → NextLine → LinesValue → Type 0
Leaves old next.Line new = GivesLine old new
Leaves old next.End new = new ≡ old
Leaves old next.TooLong new = new ≡ stopped_by stop.TooLong old
Leaves old next.ReadFault new = new ≡ stopped_by stop.ReadFault old
Leaves old next.NoMemory new = new ≡ stopped_by stop.NoMemory old

-- what a stop is answered by
abbrev pub answer_to : Stop → NextLine
answer_to stop.TooLong = next.TooLong
answer_to stop.ReadFault = next.ReadFault
answer_to stop.NoMemory = next.NoMemory

-- the count rose with a read fault, and is as before with every other answer
abbrev pub HasLinesCause : ℕ → ℕ → NextLine → Type 0
HasLinesCause before now next.Line = now ≡ before
HasLinesCause before now next.End = now ≡ before
HasLinesCause before now next.TooLong = now ≡ before
HasLinesCause before now next.ReadFault = (before ≤ now) × Rose before now
HasLinesCause before now next.NoMemory = now ≡ before
