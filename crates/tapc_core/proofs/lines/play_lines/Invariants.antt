use Rattle.std.proofs.Common.{◌≡◌, ◌+◌, ◌≤◌, length}
use Rattle.tap_exec.specs.Semantics.{semantics_of}
use Rattle.run_text.specs.ScheduleText.{most_events}
use Rattle.tapc_core.proofs.Steps.{Goes}
use Rattle.world_run.specs.Served.{GoesOn}
use Rattle.tapc_core.proofs.lines.play_lines.Given as goal

abbrev pub invariant-loop-rest : goal.invariant-loop-rest
invariant-loop-rest g l = record {
  going : Goes l.fn.world.seed (semantics_of l.fn.world.system) l.fn.world.course.state l.schedule l.rest l.number l.world.course (g.O.Sink.written l.fn.out) (g.O.Sink.written l.out) l.page.items;
  same : l.world.system ≡ l.fn.world.system;
  goes_on : GoesOn l.world;
  kept : g.O.Sink.faults l.out ≡ g.O.Sink.faults l.fn.out;
  counted : l.number ≤ most_events + 1;
  short : l.number + length l.rest ≤ length l.schedule + 1;
}

abbrev pub decreases-loop-rest : goal.decreases-loop-rest
decreases-loop-rest g l = length l.rest
