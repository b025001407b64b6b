-- A text is judged in one way.
use Rattle.std.specs.Prelude.{◌≡◌, ℕ, List, Result, Ok, Err}
use Rattle.abstract_run.specs.declared.state.State.{State}
use Rattle.tap_exec.specs.Semantics.{Semantics}
use Rattle.replay.specs.Grammar.{TellsNames}
use Rattle.replay.specs.Traces.{Judges}
use Rattle.replay.specs.declared.fault.ReplayFault.{ReplayFault}
use Rattle.replay.specs.declared.fault.ReplayFault.TheVariants as fault

-- The answer says something of the text: that it is a trace, or that a line of it is bad, or that no run goes on with one.
abbrev pub Says : Result Unit ReplayFault → Type 0
Says (Ok x) = Unit {0}
Says (Err (fault.BadLine number)) = Unit {0}
Says (Err (fault.NotARun line)) = Unit {0}
Says (Err fault.ReadFault) = ⊥
Says (Err fault.NoMemory) = ⊥

-- At most one such answer is right. So a text that is a trace has no bad line and none that no run goes on with, and a text
-- that has such a line has one first such line, and is no trace.
abbrev pub OneVerdict : Type 0
OneVerdict = (semantics : Semantics) (s : State) (text : List ℕ) (a b : Result Unit ReplayFault) → TellsNames semantics → Judges semantics s text a → Judges semantics s text b
    → Says a → Says b → a ≡ b
