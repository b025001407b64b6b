use Rattle.std.proofs.Common.{◌≡◌, ◌*◌, ◌≤◌}
use Rattle.schedule_gen.specs.Schedule.{opening}
use Rattle.schedule_gen.proofs.Gathered.{Gathered}
use Rattle.schedule_gen.proofs.writing.make.Given as goal

abbrev pub invariant-loop-i : goal.invariant-loop-i
invariant-loop-i g l = record {
  going : Gathered l.names.processes (opening l.fn.system l.fn.seed l.fn.faults) l._i l.generator (g.O.Sink.written l.fn.out) (g.O.Sink.written l.out) l.page;
  kept : g.O.Sink.faults l.out ≡ g.O.Sink.faults l.fn.out;
  soon : l.generator.time ≤ l._i * 49;
}
