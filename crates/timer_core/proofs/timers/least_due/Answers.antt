use Rattle.std.proofs.Common.{◌≡◌, ◌+◌, length, take, get_or, sym, subst, ap, ◌∙◌, arith}
use Rattle.std.proofs.Math.Seq.{take-length}
use Rattle.std.proofs.lemmas.List.{take_more}
use Rattle.tap_exec.specs.declared.running.TimerState.TheVariants as timer
use Rattle.timer_core.specs.inner.Sooner.{sooner}
use Rattle.timer_core.proofs.Sooner.{AreDueFrom, due_more}
use Rattle.timer_core.proofs.timers.least_due.Goals as goal

pub loop-state-preserved : goal.loop-state-preserved
loop-state-preserved c =
    let xs = c.args.states.now in
    let i = c.loop-state.state-index in
    let x = get_or xs i timer.Off in
    subst (λ o. AreDueFrom (take (i + 1) xs) o) (sym c.earlier-least.ensures)
    (subst (λ ys. AreDueFrom ys (sooner c.loop-state.least x)) (sym (take_more xs i timer.Off c.loop-state-test.true))
    (due_more (take i xs) x c.loop-state.least c.loop-state.invariant))

pub returns : goal.returns
returns c =
    let xs = c.args.states.now in
    let whole : c.loop-state.state-index ≡ length xs = omega arith in
    subst (λ ys. AreDueFrom ys c.loop-state.least) (ap (λ n. take n xs) whole ∙ take-length xs) c.loop-state.invariant
