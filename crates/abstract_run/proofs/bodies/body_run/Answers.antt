use Rattle.std.proofs.Common.{◌≡◌, IfOk, map, slice_get, ap, sym, subst, ◌∙◌}
use Rattle.tap_base.specs.Option.{◌>>=◌, provided}
use Rattle.tap_exec.specs.Computed.{computed}
use Rattle.tap_exec.specs.Filling.{wire_fields}
use Rattle.tap_exec.specs.Sourced.{exec_all}
use Rattle.abstract_run.specs.inner.ComputedSemantics.{computed_guard}
use Rattle.abstract_run.specs.Step.{timers_at}
use Rattle.abstract_run.proofs.ByChoices.{body_by_is, start_by}
use Rattle.abstract_run.proofs.bodies.body_run.Goals as goal

pub returns : goal.returns
returns g c =
    let p = c.args.process in
    let messages = map wire_fields c.args.messages.now in
    let action = c.args.action.now in
    let cells = c.in-Some.cells.now in
    let inputs = c.in-Some-item.inputs.now in
    let timers = c.in-Some-item-2.timers.now in
    let values = c.in-Some-2.received in
    let stored = ap (λ xs. slice_get xs p) (sym c.as_slice.ensures) ∙ sym c.in-Some.ensures in
    let given = ap (λ xs. slice_get xs p) (sym c.as_slice-2.ensures) ∙ sym c.in-Some-item.ensures in
    let timed = ap (λ xs. slice_get xs p) (sym c.as_slice-3.ensures) ∙ sym c.in-Some-item-2.ensures in
    let heard = sym c.in_ok-received.ensures ∙ c.in-Some-2.is in
    let begins = timers_at (computed_guard action.guard) timers in
    let is = body_by_is g.C.Choices.takes g.C.Choices.spent messages c.args.state.now p action cells inputs values c.args.choices timers stored given timed heard in
    let begun : c.in_ok-r.r ≡ start_by cells begins c.args.choices = cc (c.in_ok-r.ensures, c.as_slice-4.ensures, c.as_slice-5.ensures) in
    let same : exec_all computed messages c.as_slice-7.result.now c.as_slice-8.result.now g.C.Choices.takes c.as_slice-6.result.now c.in_ok-r.r
    ≡ exec_all computed messages inputs values g.C.Choices.takes action.body (start_by cells begins c.args.choices) = cc (begun, c.as_slice-6.ensures, c.as_slice-7.ensures, c.as_slice-8.ensures) in
    subst (λ o. IfOk c.body_after.result (λ r. r ≡ o)) (ap (λ o. o >>= λ r. provided (g.C.Choices.spent r.choices) r) same ∙ sym is) c.body_after.ensures
