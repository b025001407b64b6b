-- How many lines the trace of a schedule has at most.
use Rattle.std.specs.Prelude.{◌≡◌, ℕ, ◌*◌, ◌≤◌, length, List, Some}
use Rattle.abstract_run.specs.declared.label.Event.{Event}
use Rattle.abstract_run.specs.declared.label.Label.{Label}
use Rattle.abstract_run.specs.declared.state.State.{State}
use Rattle.abstract_run.specs.Answers.{Answers}
use Rattle.abstract_run.specs.Fits.{Fits}
use Rattle.abstract_run.specs.Safe.{BeginsInRange, BodiesKeepRanges}
use Rattle.tap_exec.specs.Semantics.{Semantics}
use Rattle.run_text.specs.OneTrace.{most_lines}
use Rattle.run_text.specs.ScheduleText.{most_events}
use Rattle.run_text.specs.TraceText.{run_lines, trace_lines}

-- how many lines an event has at most: a tick, 4,096 rejects, an action and its 64 sends
abbrev pub most_lines_of_event : ℕ
most_lines_of_event = 4162

-- Where bodies keep ranges, the labels that answer events from a fitting state have at most so many lines for each event.
abbrev pub FewLinesForEach : Type 0
FewLinesForEach = (semantics : Semantics) (s t : State) (events : List Event) (labels : List Label) (lines : List (List ℕ)) → BodiesKeepRanges semantics → Fits semantics s
    → Answers semantics s events labels t → run_lines semantics s labels ≡ Some lines → length lines ≤ length events * most_lines_of_event

-- The trace of a schedule has no more lines than a trace may have: with at most 1,000,000 events, and at most 64
-- processes of at most 4,096 variables, it has at most 4,162,262,145.
abbrev pub FewLines : Type 0
FewLines = (semantics : Semantics) (s t : State) (events : List Event) (labels : List Label) (lines : List (List ℕ)) → BeginsInRange semantics → BodiesKeepRanges semantics → Fits semantics s
    → length events ≤ most_events → Answers semantics s events labels t → trace_lines semantics s labels ≡ Some lines → length lines ≤ most_lines
