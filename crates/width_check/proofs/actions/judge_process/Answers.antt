use Rattle.std.proofs.Common.{◌<◌, length, Err, arith}
use Rattle.width_check.specs.Offences.{action_offences, process_offences}
use Rattle.width_check.proofs.Passing.{of_process, stops, stops_in_slice}
use Rattle.width_check.proofs.actions.judge_process.Goals as goal

pub returns-in_err-judge_action : goal.returns-in_err-judge_action
returns-in_err-judge_action c =
    let ms = c.args.messages.now in
    let p = c.args.process.now in
    let xs = c.as_slice-action-items.result.now in
    let w = c.in_err-judge_action.field-0.0 in
    let l : c.loop-action.action-index < length xs = omega arith in
    stops (process_offences ms p) c.from_residual-in_err-judge_action.result w c.from_residual-in_err-judge_action.ensures.1
    (stops_in_slice (action_offences ms p) xs p.actions c.loop-action.action-index c.action-item.result w c.as_slice-action-items.ensures c.loop-action.invariant.same l c.action-item.is
    (of_process ms c.loop-action.reads p c.action-item.result (Err w) c.loop-action.invariant.cells c.loop-action.invariant.inputs c.in_err-judge_action.ensures.found))
