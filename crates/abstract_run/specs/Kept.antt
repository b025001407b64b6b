-- What each step keeps, where bodies keep ranges.
use Rattle.std.specs.Prelude.{◌≡◌, ◌≤◌, List, [], length, Some}
use Rattle.tap_base.specs.Lists.{Each}
use Rattle.tap_exec.specs.declared.running.Outgoing.{Outgoing}
use Rattle.abstract_run.specs.declared.label.Label.{Label}
use Rattle.abstract_run.specs.declared.label.Label.TheVariants as label
use Rattle.abstract_run.specs.declared.state.State.{State}
use Rattle.abstract_run.specs.CellCount.{CountsCells}
use Rattle.abstract_run.specs.Fits.{Fits}
use Rattle.byte_meaning.specs.Messages.{IsFitSend, most_sends}
use Rattle.abstract_run.specs.Safe.{BodiesKeepRanges}
use Rattle.tap_exec.specs.Semantics.{Semantics}
use Rattle.abstract_run.specs.Step.{step}

-- An action of p sends at most 64 messages, each a fitting one of p. Every other label sends none.
abbrev pub AreFitSends : Semantics → Label → List Outgoing → Type 0
AreFitSends semantics (label.Act p a choices) sends = (length sends ≤ most_sends) × Each (IsFitSend semantics p) sends
AreFitSends semantics _ sends = sends ≡ []

-- The new state fits, what was sent fits, and there are as many cells as there should be.
pub record Keeps (semantics : Semantics) (l : Label) (old : State) (sends : List Outgoing) (new : State) : Type 0 where
  pub fits : Fits semantics new
  pub sent : AreFitSends semantics l sends
  pub cells : CountsCells semantics l old sends new

-- Where bodies keep ranges, each step from a fitting state does.
abbrev pub StepsKeep : Type 0
StepsKeep = (semantics : Semantics) (s t : State) (l : Label) (sends : List Outgoing) → BodiesKeepRanges semantics → Fits semantics s
    → step semantics s l ≡ Some (t, sends) → Keeps semantics l s sends t
