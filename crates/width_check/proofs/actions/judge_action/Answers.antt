use Rattle.std.proofs.Common.{subst, List}
use Rattle.tap_base.specs.declared.place.Range.{Range}
use Rattle.tap_base.specs.Offences.{Clears}
use Rattle.width_check.specs.Offences.{offences_in}
use Rattle.width_check.specs.inner.Reading.{reading}
use Rattle.width_check.proofs.Passing.{passed}
use Rattle.width_check.proofs.actions.judge_action.Goals as goal

pub returns-clause-found : goal.returns-clause-found
returns-clause-found c =
    let r = c.args.reads.now in
    let F : List Range → Type 0 = λ fs. Clears (offences_in c.args.messages.now (record { cells = r.cells; inputs = r.inputs; fields = fs }) c.args.action.now) c.judge_in.result in
    passed (offences_in c.args.messages.now (reading c.args.messages.now r c.args.action.now) c.args.action.now) c.judge_in.result c.refused.result c.refused.ensures
    (subst F c.in_ok-reads.ensures c.judge_in.ensures)
