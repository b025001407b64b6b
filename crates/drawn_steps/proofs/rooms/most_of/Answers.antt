use Rattle.std.proofs.Common.{◌≤◌, List, subst, sym, arith}
use Rattle.register_code.specs.declared.instr.Instr.{Instr}
use Rattle.register_code.specs.Jumping.{AreWhole}
use Rattle.register_code.specs.Loops.{cost}
use Rattle.action_code.specs.Using.{IsUse}
use Rattle.drawn_steps.proofs.Roomy.{most_on, read_at}
use Rattle.drawn_steps.proofs.rooms.most_of.Goals as goal

pub uses_of-requires-clause-whole : goal.uses_of-requires-clause-whole
uses_of-requires-clause-whole c =
    let at = read_at c.args.actions.now c.loop-action.action-index c.action-item.result (omega arith) c.action-item.is in
    subst AreWhole (sym c.as_slice.ensures) (c.requires.whole c.loop-action.action-index c.action-item.result at)

pub uses_of-requires-clause-cheap : goal.uses_of-requires-clause-cheap
uses_of-requires-clause-cheap c =
    let at = read_at c.args.actions.now c.loop-action.action-index c.action-item.result (omega arith) c.action-item.is in
    subst (λ (is : List Instr). cost is ≤ 16000000) (sym c.as_slice.ensures) (c.requires.cheap c.loop-action.action-index c.action-item.result at)

pub loop-action-preserved : goal.loop-action-preserved
loop-action-preserved c =
    let at = read_at c.args.actions.now c.loop-action.action-index c.action-item.result (omega arith) c.action-item.is in
    most_on c.args.messages.now c.args.actions.now c.loop-action.action-index c.loop-action.most c.greater-most.result c.action-item.result c.uses_of.result c.loop-action.invariant at
    (subst (λ (is : List Instr). IsUse c.args.messages.now is c.uses_of.result) c.as_slice.ensures (record { sends = c.uses_of.ensures.sends; values = c.uses_of.ensures.values; choices = c.uses_of.ensures.choices })) c.greater-most.ensures
