use Rattle.std.proofs.Common.{◌≡◌, drop, flat_map}
use Rattle.width_check.specs.Offences.{offences, process_offences}
use Rattle.width_check.proofs.actions.judge_system.Given as goal

abbrev pub invariant-loop-process : goal.invariant-loop-process
invariant-loop-process l = flat_map (process_offences l.system.messages) (drop l.process-index l.system.processes) ≡ offences l.system
