-- The timers of a process, as their callers see them.
use Rattle.std.specs.Prelude.{ℕ, List}
use Rattle.tap_exec.specs.declared.running.TimerState.{TimerState}

pub record Timing : Type 0 where
  -- the greatest reading so far, in milliseconds
  pub time : ℕ
  -- of each timer, whether it is off, armed or due
  pub states : List TimerState
