use Rattle.std.proofs.Common.{◌≡◌, drop}
use Rattle.tap_exec.specs.Sourced.{writes}
use Rattle.tap_exec.proofs.assign.write_all.Given as goal

abbrev pub invariant-loop-at : goal.invariant-loop-at
invariant-loop-at l = writes (drop l.at l.places) (drop l.at l.values) l.cells ≡ writes l.places l.values l.fn.cells
