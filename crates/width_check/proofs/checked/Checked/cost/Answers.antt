use Rattle.std.proofs.Common.{◌≡◌, sym, subst, List, Some, slice_get}
use Rattle.tap_base.specs.declared.system.Process.{Process}
use Rattle.tap_base.specs.Lists.{Each}
use Rattle.width_check.specs.inner.Answering.{IsCheap}
use Rattle.width_check.proofs.Cheap.{all_cheap, cost_is}
use Rattle.width_check.proofs.checked.Checked.cost.Goals as goal

pub greatest_cost-requires : goal.greatest_cost-requires
greatest_cost-requires c =
    let F : List Process → Type 0 = λ ps. slice_get ps c.args.process ≡ Some c.process_at-process.result.now in
    let there = subst F c.as_slice.ensures c.process_at-process.ensures in
    subst (Each IsCheap) (sym c.as_slice-2.ensures) (all_cheap c.self.inside.system c.args.process c.process_at-process.result.now c.self.invariant.clear there)

pub returns : goal.returns
returns c = cost_is c.self.inside.system c.args.self.now c.as_slice.result.now c.args.process c.process_at-process.result.now c.as_slice-2.result.now c.greatest_cost.result c.self.view_is c.as_slice.ensures c.process_at-process.ensures c.as_slice-2.ensures c.greatest_cost.ensures
