-- What becomes of a line that may be due.
use Rattle.std.specs.Prelude.{◌≡◌, ◌≢◌, ℕ, List, ◌∷◌, ◌++◌, Bool, true, false, slice_index}
use Rattle.tap_exec.specs.Semantics.{Semantics}
use Rattle.replay.specs.Stages.{BeginsLast, PassesDue, Stage}

-- The line is not the one that is due.
abbrev pub IsNotDue : Stage → List ℕ → Type 0
IsNotDue stage line = (rest : List ℕ) → stage.due ≡ line ++ 10 ∷ rest → ⊥

-- The line is passed where it is the one that is due.
abbrev pub Passes : Stage → List ℕ → Bool → Stage → Type 0
Passes old line true new = PassesDue old line new
Passes old line false new = IsNotDue old line × (new ≡ old)

-- The line is not the first of the last lines.
abbrev pub IsNotLast : Semantics → Stage → List ℕ → Type 0
IsNotLast semantics stage line = (next : Stage) → BeginsLast semantics stage line next → ⊥

-- The line is taken as the first of the last lines where it is that.
abbrev pub Begins : Semantics → Stage → List ℕ → Bool → Stage → Type 0
Begins semantics old line true new = BeginsLast semantics old line new
Begins semantics old line false new = IsNotLast semantics old line × (new ≡ old)

-- The line begins as neither the end does nor a variable's line.
abbrev pub BeginsNoLast : List ℕ → Type 0
BeginsNoLast line = (slice_index line 0 ≢ 101) × (slice_index line 0 ≡ 118 → slice_index line 1 ≢ 97)
