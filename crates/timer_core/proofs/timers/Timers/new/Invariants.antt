use Rattle.std.proofs.Common.{◌≡◌, replicate}
use Rattle.tap_exec.specs.declared.running.TimerState.TheVariants.{Off}
use Rattle.timer_core.proofs.timers.Timers.new.Given as goal

abbrev pub invariant-loop : goal.invariant-loop
invariant-loop l = l.states ≡ replicate l.counter Off
