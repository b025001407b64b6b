use Rattle.tap_exec.specs.Semantics.{semantics_of}
use Rattle.abstract_run.specs.Fits.{Fits}
use Rattle.world_tests.proofs.steps.check_rows.Given as goal

abbrev pub invariant-loop-deed : goal.invariant-loop-deed
invariant-loop-deed g l = Fits (semantics_of l.system) l.state
