use Rattle.std.proofs.Common.{◌≤◌, ◌^◌, subst, sym, arith, List}
use Rattle.tap_exec.specs.declared.running.TimerState.{TimerState}
use Rattle.tap_base.specs.Lists.{Each}
use Rattle.abstract_run.specs.Fits.{IsFitTimer}
use Rattle.timer_core.proofs.Fitting.{dated_fit}
use Rattle.timer_core.proofs.timers.Timers.tick.Goals as goal

pub invariant_of-self : goal.invariant_of-self
invariant_of-self c =
    let within : c.max-self-inside.result ≤ 2 ^ 62 = omega arith in
    (within, subst (λ (ts : List TimerState). Each IsFitTimer ts) (sym c.date_all.ensures) (dated_fit c.max-self-inside.result c.self.inside.states within c.self.invariant.1))
