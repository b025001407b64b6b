-- What moves from a store to what is held, and from there to a line.
use Rattle.std.specs.Prelude.{◌≡◌, ◌≢◌, ◌<◌, ◌≤◌, ℕ, Bool, true, false, List, [], ◌∷◌, ◌++◌, length, Option, Result, Ok, Err}
use Rattle.std.specs.Io.KnownBytes.{IsAtEnd, Keeps}
use Rattle.run_text.specs.ScheduleText.{Lacks}
use Rattle.store_lines.specs.Lines.{answer_to, coming, most_bytes}
use Rattle.store_lines.specs.declared.answer.NextLine.{NextLine}
use Rattle.store_lines.specs.declared.answer.NextLine.TheVariants as next
use Rattle.store_lines.specs.declared.answer.Stop.{Stop}
use Rattle.store_lines.specs.declared.answer.Stop.TheVariants as stop

-- Some bytes are held, or none is to come. What is to come stays.
abbrev pub Fills : {E : Type 0} → List ℕ → Option (List ℕ) → Result Bool E → List ℕ → Option (List ℕ) → Type 0
Fills old told (Ok true) new left = (new ≢ []) × Keeps (coming old told) (coming new left)
Fills old told (Ok false) new left = (old ≡ []) × (new ≡ []) × IsAtEnd told × Keeps told left
Fills old told (Err e) new left = (old ≡ []) × (new ≡ []) × (left ≡ told)

-- Bytes are appended to a line, or it has too many with them.
abbrev pub AppendsTo : List ℕ → List ℕ → Result Unit Stop → List ℕ → Type 0
AppendsTo old bytes (Ok x) new = (new ≡ old ++ bytes) × (length new ≤ most_bytes)
AppendsTo old bytes (Err stop.TooLong) new = most_bytes < length (old ++ bytes)
AppendsTo old bytes (Err stop.ReadFault) new = ⊥
AppendsTo old bytes (Err stop.NoMemory) new = Unit {0}

-- The front of what is held goes to the end of the line, up to a line feed, or all of it where there is none; or the
-- line has too many bytes with a front that has no line feed.
abbrev pub Moves : List ℕ → List ℕ → Result Bool Stop → List ℕ → List ℕ → Type 0
Moves held line (Ok true) rest new = (front : List ℕ) × (held ≡ front ++ 10 ∷ rest) × Lacks 10 front × (new ≡ line ++ front) × (length new ≤ most_bytes)
Moves held line (Ok false) rest new = Lacks 10 held × (rest ≡ []) × (new ≡ line ++ held) × (length new ≤ most_bytes)
Moves held line (Err stop.TooLong) rest new = (front behind : List ℕ) × (held ≡ front ++ behind) × Lacks 10 front × (most_bytes < length (line ++ front))
Moves held line (Err stop.ReadFault) rest new = ⊥
Moves held line (Err stop.NoMemory) rest new = Unit {0}

-- what is answered where there is a line, where there is none, and where there is a stop
abbrev pub answer_of : Result Bool Stop → NextLine
answer_of (Ok true) = next.Line
answer_of (Ok false) = next.End
answer_of (Err why) = answer_to why

-- What reading a line leaves of the line and of what is held.
abbrev pub LeavesLine : List ℕ → List ℕ → Result Bool Stop → List ℕ → List ℕ → Type 0
LeavesLine held old (Ok true) rest new = Lacks 10 new × (length new ≤ most_bytes)
LeavesLine held old (Ok false) rest new = (held ≡ []) × (rest ≡ []) × (new ≡ old)
LeavesLine held old (Err stop.TooLong) rest new = Unit {0}
LeavesLine held old (Err stop.ReadFault) rest new = rest ≡ []
LeavesLine held old (Err stop.NoMemory) rest new = Unit {0}
