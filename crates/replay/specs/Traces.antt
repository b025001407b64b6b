-- Which texts are the trace of a run, and where one stops to be.
use Rattle.std.specs.Prelude.{◌≡◌, ◌≢◌, ◌⊎◌, ℕ, ◌+◌, ◌<◌, ◌≤◌, List, [], ◌∷◌, ◌++◌, length, Option, Result, Ok, Err, Some, IfSome}
use Rattle.tap_base.specs.Lists.{Each}
use Rattle.abstract_run.specs.declared.label.Label.{Label}
use Rattle.abstract_run.specs.declared.state.State.{State}
use Rattle.tap_exec.specs.Semantics.{Semantics}
use Rattle.run_text.specs.OneTrace.{IsTraceOf, most_lines}
use Rattle.run_text.specs.ScheduleText.{IsFirstLine, Lacks}
use Rattle.run_text.specs.Sized.{IsSized}
use Rattle.run_text.specs.TraceText.{lines_text, run_lines, trace_lines}
use Rattle.link_trait.specs.Outside.{Rose}
use Rattle.replay.specs.Grammar.{IsInGrammar, IsInNoGrammar}
use Rattle.replay.specs.declared.fault.ReplayFault.{ReplayFault}
use Rattle.replay.specs.declared.fault.ReplayFault.TheVariants as fault

-- ---- traces

-- The text is the trace of a run from a state on.
abbrev pub IsWhole : Semantics → State → List ℕ → Type 0
IsWhole semantics s text = (labels : List Label) × IsTraceOf semantics s labels text

-- The same, but the line feed of the last line may be wanting.
abbrev pub IsTrace : Semantics → State → List ℕ → Type 0
IsTrace semantics s text = IsWhole semantics s text ⊎ IsWhole semantics s (text ++ 10 ∷ [])

-- The text is a front of the lines of a run, or of its trace.
pub record BeginsTrace (semantics : Semantics) (s : State) (text : List ℕ) : Type 0 where
  pub labels : List Label
  pub sized : Each (IsSized (length semantics.processes)) labels
  pub lines : List (List ℕ)
  pub told : (run_lines semantics s labels ≡ Some lines) ⊎ (trace_lines semantics s labels ≡ Some lines)
  pub rest : List ℕ
  pub split : lines_text lines ≡ text ++ rest

-- ---- where a text stops to be one

-- The last byte of the text is there, and is no line feed.
pub record IsUnended (text : List ℕ) : Type 0 where
  pub front : List ℕ
  pub last : ℕ
  pub split : text ≡ front ++ last ∷ []
  pub other : last ≢ 10

-- The text begins with these lines, and has the rest behind them. The line feed of its last line may be wanting.
abbrev pub HasFront : List ℕ → List (List ℕ) → List ℕ → Type 0
HasFront text lines rest = (text ≡ lines_text lines ++ rest) ⊎ ((rest ≡ []) × IsUnended text × (text ++ 10 ∷ [] ≡ lines_text lines))

-- The first lines of a text are judged good: they begin a trace, and are not too many.
pub record IsGoodSoFar (semantics : Semantics) (s : State) (text : List ℕ) (lines : List (List ℕ)) (rest : List ℕ) : Type 0 where
  pub front : HasFront text lines rest
  pub unbroken : Each (Lacks 10) lines
  pub few : length lines ≤ most_lines
  pub begins : BeginsTrace semantics s (lines_text lines)

-- A next line, which has no line feed.
pub record HasNext (rest line : List ℕ) : Type 0 where
  pub some : rest ≡ [] → ⊥
  pub behind : List ℕ
  pub first : IsFirstLine rest line behind
  pub unbroken : Lacks 10 line

-- Why the line behind some good ones is a bad one: it is wanting, and so is the end; or it stands behind the end, or is
-- one too many, or is in no grammar, so that no trace goes on with it.
pub data IsBadNext (semantics : Semantics) (s : State) (lines : List (List ℕ)) (rest : List ℕ) : Type 0 where
  wanting : rest ≡ [] → (IsWhole semantics s (lines_text lines) → ⊥) → IsBadNext semantics s lines rest
  behind_end : (rest ≡ [] → ⊥) → IsWhole semantics s (lines_text lines) → IsBadNext semantics s lines rest
  one_too_many : (rest ≡ [] → ⊥) → length lines ≡ most_lines → IsBadNext semantics s lines rest
  in_none : {line : List ℕ} → HasNext rest line → IsInNoGrammar semantics line → (BeginsTrace semantics s (lines_text (lines ++ line ∷ [])) → ⊥) → IsBadNext semantics s lines rest

-- All lines before the one of a number are good, and that one is bad.
pub record IsBadAt (semantics : Semantics) (s : State) (text : List ℕ) (number : ℕ) : Type 0 where
  pub lines : List (List ℕ)
  pub rest : List ℕ
  pub good : IsGoodSoFar semantics s text lines rest
  pub count : number ≡ length lines + 1
  pub bad : IsBadNext semantics s lines rest

-- All lines before the one of a number are good. That one is in the grammar and none too many, and no trace of a run goes
-- on with it, though the end has not come.
pub record IsNoRunAt (semantics : Semantics) (s : State) (text : List ℕ) (number : ℕ) : Type 0 where
  pub lines : List (List ℕ)
  pub rest : List ℕ
  pub good : IsGoodSoFar semantics s text lines rest
  pub count : number ≡ length lines + 1
  pub line : List ℕ
  pub next : HasNext rest line
  pub spelled : IsInGrammar semantics line
  pub room : length lines < most_lines
  pub goes_on : IsWhole semantics s (lines_text lines) → ⊥
  pub impossible : BeginsTrace semantics s (lines_text (lines ++ line ∷ [])) → ⊥

-- ---- what is answered

-- The text is a trace; or it has a bad line, or one that no run goes on with; or it was not read, or memory was refused.
abbrev pub Judges : Semantics → State → List ℕ → Result Unit ReplayFault → Type 0
Judges semantics s text (Ok x) = IsTrace semantics s text
Judges semantics s text (Err (fault.BadLine number)) = IsBadAt semantics s text number
Judges semantics s text (Err (fault.NotARun line)) = IsNoRunAt semantics s text line
Judges semantics s text (Err fault.ReadFault) = Unit {0}
Judges semantics s text (Err fault.NoMemory) = Unit {0}

-- where the contents are told, nothing of them is left
abbrev pub LeavesNone : Option (List ℕ) → Option (List ℕ) → Type 0
LeavesNone told left = IfSome told (λ contents. left ≡ Some [])

-- the count rose with a read fault, and is as before with every other answer
abbrev pub HasReplayCause : ℕ → ℕ → Result Unit ReplayFault → Type 0
HasReplayCause before now (Ok x) = now ≡ before
HasReplayCause before now (Err (fault.BadLine number)) = now ≡ before
HasReplayCause before now (Err (fault.NotARun line)) = now ≡ before
HasReplayCause before now (Err fault.ReadFault) = (before ≤ now) × Rose before now
HasReplayCause before now (Err fault.NoMemory) = now ≡ before
