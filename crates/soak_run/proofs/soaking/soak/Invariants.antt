use Rattle.std.proofs.Common.{◌≡◌}
use Rattle.tap_exec.specs.Semantics.{semantics_of}
use Rattle.schedule_gen.specs.Schedule.{opening}
use Rattle.soak_run.proofs.RunSoFar.{SoFar}
use Rattle.soak_run.proofs.soaking.soak.Given as goal
use Rattle.world_run.specs.Served.{GoesOn}

abbrev pub invariant-loop-i : goal.invariant-loop-i
invariant-loop-i l = record {
  so_far : SoFar l.fn.world.seed (semantics_of l.fn.world.system) l.fn.world.course.state (opening l.fn.world.system l.fn.seed l.fn.faults) l._i l.world.course l.generator l.tally;
  same : l.world.system ≡ l.fn.world.system;
  goes_on : GoesOn l.world;
}
