-- How many cells stand in the channels, and how many more or fewer a label leaves.
use Rattle.std.specs.Prelude.{◌≡◌, ℕ, ◌+◌, List, length, map, sum, Option, Some, None}
use Rattle.abstract_run.specs.declared.label.Label.{Label}
use Rattle.abstract_run.specs.declared.label.Label.TheVariants as label
use Rattle.abstract_run.specs.declared.state.State.{State}
use Rattle.tap_exec.specs.declared.running.Outgoing.{Outgoing}
use Rattle.tap_exec.specs.Semantics.{Semantics, ActionSemantics, GuardSemantics, receive, action_at}

-- how many cells stand in all channels
abbrev pub cells_in : State → ℕ
cells_in s = sum (map (λ c. length c.cells) s.channels)

-- an action takes out the cell that it receives
abbrev pub cells_received : GuardSemantics → ℕ
cells_received (receive m q) = 1
cells_received _ = 0

abbrev pub cells_taken_by : Option ActionSemantics → ℕ
cells_taken_by None = 0
cells_taken_by (Some action) = cells_received action.guard

-- how many cells a label takes out: that of a receive, of a reject or of a loss, and the sends that failed
abbrev pub cells_taken : Semantics → Label → ℕ
cells_taken semantics (label.Act p a choices) = cells_taken_by (action_at semantics p a)
cells_taken semantics (label.Reject q p i) = 1
cells_taken semantics (label.Lose q p i) = 1
cells_taken semantics (label.Stop p receivers) = length receivers
cells_taken semantics _ = 0

-- how many cells a label puts in beside the sends of an action: a copy, or a forged one
abbrev pub cells_put : Label → ℕ
cells_put (label.Copy q p i) = 1
cells_put (label.Forge q p bytes) = 1
cells_put _ = 0

-- Behind a step there are as many cells as before, less what its label takes out, and those that it puts in or sends.
abbrev pub CountsCells : Semantics → Label → State → List Outgoing → State → Type 0
CountsCells semantics l old sends new = cells_in new + cells_taken semantics l ≡ cells_in old + (cells_put l + length sends)
