use Rattle.tap_types.specs.ActionOffences.{action_offences, actions_offences}
use Rattle.tap_base.specs.Option.{each}
use Rattle.tap_types.specs.Systems.{action_of}
use Rattle.tap_types.specs.inner.Typing.{scope_of}
use Rattle.tap_base.proofs.LoopFacts.{each_on, flat_on}
use Rattle.tap_names.proofs.Loops.{flat_fault, passed}
use Rattle.tap_types.proofs.actions.type_actions.Goals as goal

pub returns-in_err-type_action : goal.returns-in_err-type_action
returns-in_err-type_action c =
    let s = scope_of c.args.names.now in
    let xs = c.args.actions.now in
    passed (actions_offences s xs) (each (action_of s) xs) _ _ c.from_residual.ensures.1 (flat_fault (action_offences s) xs c.actions.action-index c.action-item.result c.actions-test.true c.action-item.is _ c.in_err-type_action.ensures c.actions.invariant.clear)

pub actions-preserved : goal.actions-preserved
actions-preserved c =
    let s = scope_of c.args.names.now in
    let xs = c.args.actions.now in
    record {
      clear = flat_on (action_offences s) xs c.actions.action-index c.action-item.result c.actions-test.true c.action-item.is c.in_ok-type_action.ensures.0 c.actions.invariant.clear;
      named = each_on (action_of s) xs c.actions.action-index c.action-item.result c.actions-test.true c.action-item.is c.in_ok-type_action.field-0 c.actions.found _ c.in_ok-push.ensures.ok c.in_ok-type_action.ensures.1 c.actions.invariant.named;
    }
