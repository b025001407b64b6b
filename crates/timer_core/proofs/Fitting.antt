-- Timers stay fit.
use Rattle.std.proofs.Common.{◌≤◌, ◌^◌, ℕ, List, map, arith}
use Rattle.tap_base.specs.Lists.{Each}
use Rattle.tap_base.proofs.ListFacts.{each_map}
use Rattle.tap_exec.specs.declared.running.TimerState.{TimerState}
use Rattle.tap_exec.specs.declared.running.TimerState.TheVariants as timer
use Rattle.abstract_run.specs.Fits.{IsFitTimer}
use Rattle.abstract_run.specs.Step.{timer_after}

one_fits : (time : ℕ) (t : TimerState) → time ≤ 2 ^ 62 → IsFitTimer t → IsFitTimer (timer_after time t)
one_fits time timer.Off h k = tt
one_fits time (timer.Armed delay) h k = omega (arith, h, k)
one_fits time (timer.Due at) h k = k

pub dated_fit : (time : ℕ) (ts : List TimerState) → time ≤ 2 ^ 62 → Each IsFitTimer ts → Each IsFitTimer (map (timer_after time) ts)
dated_fit time ts h k = each_map IsFitTimer IsFitTimer (timer_after time) ts (λ t f. one_fits time t h f) k
