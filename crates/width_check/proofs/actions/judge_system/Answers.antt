use Rattle.std.proofs.Common.{◌<◌, length, List, Err, subst, arith}
use Rattle.tap_base.specs.declared.system.Message.{Message}
use Rattle.width_check.specs.Offences.{offences, process_offences}
use Rattle.width_check.specs.inner.Answering.{Finds}
use Rattle.width_check.proofs.Passing.{stops, stops_in_slice}
use Rattle.width_check.proofs.actions.judge_system.Goals as goal

pub returns-in_err-judge_process : goal.returns-in_err-judge_process
returns-in_err-judge_process c =
    let system = c.args.system.now in
    let xs = c.as_slice-process-items.result.now in
    let w = c.in_err-judge_process.field-0.0 in
    let l : c.loop-process.process-index < length xs = omega arith in
    let F : List Message → Type 0 = λ ms. Finds (process_offences ms c.process-item.result) (Err w) in
    stops (offences system) c.from_residual.result w c.from_residual.ensures.1
    (stops_in_slice (process_offences system.messages) xs system.processes c.loop-process.process-index c.process-item.result w c.as_slice-process-items.ensures c.loop-process.invariant l c.process-item.is
    (subst F c.as_slice.ensures c.in_err-judge_process.ensures))
