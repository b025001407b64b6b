-- How a run goes on from a state.
use Rattle.std.specs.Prelude.{◌≡◌, ℕ, ◌+◌, ◌≤◌, Bool, true, length, List, ℤ, None, Some, is_some}
use Rattle.tap_base.specs.Lists.{Each}
use Rattle.tap_base.specs.Option.{◌>>=◌}
use Rattle.abstract_run.specs.declared.label.Label.{Label}
use Rattle.abstract_run.specs.declared.label.Label.TheVariants as label
use Rattle.abstract_run.specs.declared.state.Channel.{Channel}
use Rattle.abstract_run.specs.declared.state.Falling.{Falling}
use Rattle.tap_exec.specs.declared.running.Outgoing.{Outgoing}
use Rattle.abstract_run.specs.declared.state.State.{State}
use Rattle.abstract_run.specs.Channels.{most_cells}
use Rattle.abstract_run.specs.Enabled.{is_enabled}
use Rattle.abstract_run.specs.Fits.{Fits}
use Rattle.byte_meaning.specs.Messages.{most_sends}
use Rattle.abstract_run.specs.Safe.{BodiesKeepRanges}
use Rattle.tap_exec.specs.Semantics.{Semantics, action_at}
use Rattle.abstract_run.specs.Step.{body_run, is_live, step}

-- the label is possible
pub record IsPossible (semantics : Semantics) (s : State) (l : Label) : Type 0 where
  pub next : State
  pub sends : List Outgoing
  pub is : step semantics s l ≡ Some (next, sends)

-- room for as many cells as one action can send
abbrev pub HasRoom : Channel → Type 0
HasRoom c = length c.cells + most_sends ≤ most_cells

-- whether the body of the action of p numbered a comes to its end with these choices, and takes them all
abbrev pub leads_to : Semantics → State → ℕ → ℕ → List ℤ → Bool
leads_to semantics s p a choices = is_some (action_at semantics p a >>= λ action. body_run s p action choices)

-- Where bodies keep ranges, in a fitting state with nothing falling an enabled action of a process that is not down has a
-- step with choices that lead its body to its end, where each channel has room for what it may send.
abbrev pub ActionsGoOn : Type 0
ActionsGoOn = (semantics : Semantics) (s : State) (p a : ℕ) (choices : List ℤ) → BodiesKeepRanges semantics → Fits semantics s → s.falling ≡ None → is_live s p ≡ true
    → Each HasRoom s.channels → is_enabled semantics s p a ≡ true → leads_to semantics s p a choices ≡ true → IsPossible semantics s (label.Act p a choices)

-- In a fitting state with nothing falling each process that is not down can take any reading.
abbrev pub TicksGoOn : Type 0
TicksGoOn = (semantics : Semantics) (s : State) (p c : ℕ) → Fits semantics s → s.falling ≡ None → is_live s p ≡ true → IsPossible semantics s (label.Tick p c)

-- Where a cut falls in a fitting state, the stop that it asks for is possible.
abbrev pub FallsGoOn : Type 0
FallsGoOn = (semantics : Semantics) (s : State) (f : Falling) → Fits semantics s → s.falling ≡ Some f → IsPossible semantics s (label.Stop f.process f.receivers)
