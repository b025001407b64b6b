-- What the trace of a run is, and that a text is the trace of at most one list of labels.
use Rattle.std.specs.Prelude.{◌≡◌, ℕ, ◌≤◌, length, List, Some}
use Rattle.tap_base.specs.Lists.{Each}
use Rattle.abstract_run.specs.declared.label.Label.{Label}
use Rattle.abstract_run.specs.declared.state.State.{State}
use Rattle.tap_exec.specs.Semantics.{Semantics}
use Rattle.run_text.specs.Names.{AreNames}
use Rattle.run_text.specs.Sized.{IsSized}
use Rattle.run_text.specs.TraceText.{label_line, lines_text, names_in, trace_lines}

-- how many lines a trace has at most
abbrev pub most_lines : ℕ
most_lines = 4294967295

-- The bytes are the trace of the labels from a state on: the text of their lines, which are not too many, and each
-- number of a label is one that its field holds.
pub record IsTraceOf (semantics : Semantics) (s : State) (labels : List Label) (bytes : List ℕ) : Type 0 where
  pub lines : List (List ℕ)
  pub told : trace_lines semantics s labels ≡ Some lines
  pub sized : Each (IsSized (length semantics.processes)) labels
  pub few : length lines ≤ most_lines
  pub text : bytes ≡ lines_text lines

-- A line is that of at most one label.
abbrev pub OneLine : Type 0
OneLine = (names : List (List ℕ)) (l m : Label) → AreNames names → IsSized (length names) l → IsSized (length names) m
    → label_line names l ≡ label_line names m → l ≡ m

-- Bytes are the trace of at most one list of labels from a state on.
abbrev pub OneTrace : Type 0
OneTrace = (semantics : Semantics) (s : State) (bytes : List ℕ) (labels others : List Label) → AreNames (names_in semantics)
    → IsTraceOf semantics s labels bytes → IsTraceOf semantics s others bytes → labels ≡ others
