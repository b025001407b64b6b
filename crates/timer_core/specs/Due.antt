-- The next time at which a timer is due.
use Rattle.std.specs.Prelude.{ℕ, ◌≤◌, List, Contains}
use Rattle.tap_exec.specs.declared.running.TimerState.{TimerState}
use Rattle.tap_exec.specs.declared.running.TimerState.TheVariants.{Due}

-- no timer is in state Due
abbrev pub NoneIsDue : List TimerState → Type 0
NoneIsDue states = (at : ℕ) → ¬ Contains states (Due at)

-- a timer is due at this time, and none earlier
pub record IsNextDue (states : List TimerState) (time : ℕ) : Type 0 where
  pub due : Contains states (Due time)
  pub least : (at : ℕ) → Contains states (Due at) → time ≤ at
