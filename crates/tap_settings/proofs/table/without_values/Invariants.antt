use Rattle.std.proofs.Common.{◌≡◌, None, length, map, replicate, take}
use Rattle.tap_settings.proofs.table.without_values.Given as goal

abbrev pub invariant-loop-process : goal.invariant-loop-process
invariant-loop-process l = l.rows ≡ map (λ p. replicate (length p.inputs) None) (take l.process-index l.processes)
