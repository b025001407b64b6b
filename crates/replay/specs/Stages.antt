-- How far a trace is judged, and what its next line leaves.
use Rattle.std.specs.Prelude.{◌≡◌, ◌⊎◌, ℕ, List, [], ◌∷◌, ◌++◌, Bool, true, false, length, map, None, Some, Result, Ok, Err}
use Rattle.tap_base.specs.Option.{each}
use Rattle.tap_exec.specs.Semantics.{Semantics}
use Rattle.tap_exec.specs.declared.running.Outgoing.{Outgoing}
use Rattle.abstract_run.specs.Step.{step}
use Rattle.abstract_run.specs.declared.label.Label.{Label}
use Rattle.abstract_run.specs.declared.state.State.{State}
use Rattle.run_text.specs.Sized.{IsSized}
use Rattle.run_text.specs.TraceText.{Datagram, datagram, label_line, last_lines, lines_text, names_in, sent_line, went_out}
use Rattle.replay.specs.Grammar.{IsInGrammar, IsInNoGrammar}
use Rattle.replay.specs.declared.passed.Passed.{Passed}
use Rattle.replay.specs.declared.passed.Passed.TheVariants as passed
use Rattle.replay.specs.declared.passed.Refusal.{Refusal}
use Rattle.replay.specs.declared.passed.Refusal.TheVariants as refusal

-- How far a trace is judged: the state behind its labels so far, the text of the lines that have to come next, and
-- whether those are its last ones.
pub record Stage : Type 0 where
  pub state : State
  pub due : List ℕ
  pub closing : Bool

-- the stage before the first line
abbrev pub first_stage : State → Stage
first_stage s = record { state = s; due = []; closing = false }

-- Nothing is due, so a label may come, or the last lines.
pub record IsReady (old : Stage) : Type 0 where
  pub nothing_due : old.due ≡ []
  pub not_closing : old.closing ≡ false

-- The end was the last line.
pub record HasEnded (old : Stage) : Type 0 where
  pub nothing_due : old.due ≡ []
  pub closing : old.closing ≡ true

-- The line is the one that is due.
pub record PassesDue (old : Stage) (line : List ℕ) (new : Stage) : Type 0 where
  pub due : old.due ≡ line ++ 10 ∷ new.due
  pub state : new.state ≡ old.state
  pub closing : new.closing ≡ old.closing

-- The line is that of a label which is possible, and the lines of what went out with it are due.
pub record TakesLabel (semantics : Semantics) (old : Stage) (line : List ℕ) (new : Stage) : Type 0 where
  pub ready : IsReady old
  pub label : Label
  pub sized : IsSized (length semantics.processes) label
  pub spelled : line ≡ label_line (names_in semantics) label
  pub sends : List Outgoing
  pub steps : step semantics old.state label ≡ Some (new.state, sends)
  pub out : List Datagram
  pub went : each (datagram semantics) (went_out (new.state, sends)) ≡ Some out
  pub due : new.due ≡ lines_text (map (sent_line (names_in semantics)) out)
  pub closing : new.closing ≡ false

-- The line is the first of the last lines, and the others are due.
pub record BeginsLast (semantics : Semantics) (old : Stage) (line : List ℕ) (new : Stage) : Type 0 where
  pub ready : IsReady old
  pub settled : old.state.falling ≡ None
  pub due : lines_text (last_lines semantics old.state) ≡ line ++ 10 ∷ new.due
  pub state : new.state ≡ old.state
  pub closing : new.closing ≡ true

-- The line is one that can come next.
abbrev pub Goes : Semantics → Stage → List ℕ → Stage → Type 0
Goes semantics old line new = PassesDue old line new ⊎ (TakesLabel semantics old line new ⊎ BeginsLast semantics old line new)

-- The line can't come next.
abbrev pub CannotGo : Semantics → Stage → List ℕ → Type 0
CannotGo semantics old line = (next : Stage) → Goes semantics old line next → ⊥

-- What judging a line answers: it can come next; or it is in no grammar or behind the end; or it is in the grammar and
-- can't come next; or memory was refused.
abbrev pub Takes : Semantics → Stage → List ℕ → Result Passed Refusal → Stage → Type 0
Takes semantics old line (Ok passed.Label) new = TakesLabel semantics old line new
Takes semantics old line (Ok passed.Due) new = PassesDue old line new ⊎ BeginsLast semantics old line new
Takes semantics old line (Err refusal.BadLine) new = (HasEnded old ⊎ IsInNoGrammar semantics line) × CannotGo semantics old line × (new ≡ old)
Takes semantics old line (Err refusal.NotARun) new = IsInGrammar semantics line × (HasEnded old → ⊥) × CannotGo semantics old line × (new ≡ old)
Takes semantics old line (Err refusal.NoMemory) new = Unit {0}
