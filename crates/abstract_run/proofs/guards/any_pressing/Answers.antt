use Rattle.std.proofs.Common.{ap, sym, ◌∙◌, slice_get}
use Rattle.abstract_run.proofs.InSystem.{any_pressing_in, any_pressing_none, any_pressing_some}
use Rattle.abstract_run.proofs.guards.any_pressing.Goals as goal

pub returns-in-Some : goal.returns-in-Some
returns-in-Some c =
    let there = ap (λ ps. slice_get ps c.args.process) (sym c.as_slice.ensures) ∙ sym c.in-Some.ensures in
    c.any_pressing_of.ensures ∙ ap (any_pressing_in c.args.state.now c.args.process) c.as_slice-in-Some.ensures
    ∙ sym (any_pressing_some c.args.system.now c.args.state.now c.args.process c.in-Some.found.now there)

pub returns-in-None : goal.returns-in-None
returns-in-None c =
    sym (any_pressing_none c.args.system.now c.args.state.now c.args.process (ap (λ ps. slice_get ps c.args.process) (sym c.as_slice.ensures) ∙ sym c.in-None.ensures))
