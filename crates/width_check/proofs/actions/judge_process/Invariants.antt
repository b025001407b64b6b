use Rattle.std.proofs.Common.{◌≡◌, drop, flat_map}
use Rattle.tap_base.specs.Ranges.{ranges_of}
use Rattle.tap_base.specs.Scope.{input_ranges}
use Rattle.width_check.specs.Offences.{action_offences}
use Rattle.width_check.proofs.actions.judge_process.Given as goal

abbrev pub invariant-loop-action : goal.invariant-loop-action
invariant-loop-action l = record {
  cells : l.reads.cells ≡ ranges_of l.process.vars;
  inputs : l.reads.inputs ≡ input_ranges l.process.inputs;
  same : flat_map (action_offences l.messages l.process) (drop l.action-index l.process.actions) ≡ flat_map (action_offences l.messages l.process) l.process.actions;
}
