use Rattle.std.proofs.Common.{◌≡◌, map, take}
use Rattle.run_text.specs.TraceText.{var_name}
use Rattle.run_text.proofs.names.names_of.Given as goal

-- the names of the processes so far, and of their variables
abbrev pub invariant-loop-process : goal.invariant-loop-process
invariant-loop-process l = record {
  processes : l.processes ≡ map (λ p. p.name) (take l.process-index l.system.processes);
  vars : l.vars ≡ map (λ p. map var_name p.vars) (take l.process-index l.system.processes);
}
