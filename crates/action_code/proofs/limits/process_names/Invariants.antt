use Rattle.std.proofs.Common.{◌≡◌, map, take}
use Rattle.register_code.specs.declared.code.CodeProcess.{CodeProcess}
use Rattle.action_code.proofs.limits.process_names.Given as goal

abbrev pub invariant-loop-process : goal.invariant-loop-process
invariant-loop-process l = l.names ≡ map (λ (p : CodeProcess). p.name) (take l.process-index l.code.processes)
