-- How far a text is judged, line by line.
use Rattle.std.specs.Prelude.{◌≡◌, ◌⊎◌, ℕ, ◌+◌, ◌≤◌, ◌<◌, List, [], ◌∷◌, ◌++◌, length, Option, Some, IfSome}
use Rattle.tap_base.specs.Lists.{Each}
use Rattle.tap_exec.specs.Semantics.{Semantics}
use Rattle.abstract_run.specs.Fits.{Fits}
use Rattle.abstract_run.specs.declared.state.State.{State}
use Rattle.run_text.specs.OneTrace.{most_lines}
use Rattle.run_text.specs.ScheduleText.{Lacks}
use Rattle.run_text.specs.TraceText.{lines_text}
use Rattle.replay.specs.Stages.{Goes, Stage, first_stage}
use Rattle.replay.specs.Traces.{IsUnended}

-- From one stage to another by lines, each of which can come next in its turn.
abbrev pub Walks : Semantics → Stage → List (List ℕ) → Stage → Type 0
Walks semantics old [] new = old ≡ new
Walks semantics old (line ∷ lines) new = (next : Stage) × Goes semantics old line next × Walks semantics next lines new

-- The lines of a text were judged good up to a stage, and behind them stands the front of the line of a number.
pub record Progress (semantics : Semantics) (start : State) (text front : List ℕ) (number : ℕ) (stage : Stage) : Type 0 where
  pub lines : List (List ℕ)
  pub unbroken : Each (Lacks 10) lines
  pub count : number ≡ length lines + 1
  pub few : length lines ≤ most_lines
  pub walks : Walks semantics (first_stage start) lines stage
  pub split : text ≡ lines_text lines ++ front
  pub whole : Lacks 10 front

-- A stage in which a line of this number can be judged.
pub record IsUnderWay (semantics : Semantics) (number : ℕ) (stage : Stage) : Type 0 where
  pub fits : Fits semantics stage.state
  pub few : number ≤ most_lines + 1

-- The text goes on behind what was taken of it with a line feed; or it ends there, within a line.
abbrev pub EndsLine : List ℕ → List ℕ → List ℕ → Type 0
EndsLine taken line text = ((behind : List ℕ) × (text ≡ taken ++ 10 ∷ behind)) ⊎ ((text ≡ taken) × (line ≡ [] → ⊥))

-- The text is what was taken, but for the line feed of its last line, which may be wanting.
abbrev pub IsText : List ℕ → List ℕ → Type 0
IsText text taken = (text ≡ taken) ⊎ (IsUnended text × (text ++ 10 ∷ [] ≡ taken))

-- A line came to its end, or so many more bytes of one were taken.
abbrev pub Advances : ℕ → List ℕ → ℕ → ℕ → List ℕ → Type 0
Advances old front more number line = (old < number) ⊎ ((number ≡ old) × (length line ≡ length front + more))

-- where the contents are told, they are the bytes that were taken and what is left
abbrev pub Parts : Option (List ℕ) → List ℕ → Option (List ℕ) → Type 0
Parts told taken left = IfSome told (λ contents. (rest : List ℕ) × (left ≡ Some rest) × (contents ≡ taken ++ rest))
