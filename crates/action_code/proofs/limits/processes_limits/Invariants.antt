use Rattle.std.proofs.Common.{◌≡◌, drop}
use Rattle.std.specs.List.{list_all}
use Rattle.register_code.specs.Declarations.{process_limits}
use Rattle.action_code.proofs.limits.processes_limits.Given as goal

abbrev pub invariant-loop-process : goal.invariant-loop-process
invariant-loop-process l = list_all process_limits (drop l.process-index l.processes) ≡ list_all process_limits l.processes
