use Rattle.tap_exec.specs.Semantics.{semantics_of}
use Rattle.world_run.specs.Names.{AreNamesOf}
use Rattle.world_tests.proofs.recorded.check_rows.Given as goal

abbrev pub invariant-loop-row : goal.invariant-loop-row
invariant-loop-row g l = AreNamesOf (semantics_of l.world.system) l.names
