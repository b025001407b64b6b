use Rattle.world_run.specs.inner.Serving.{Rejected, said_by}
use Rattle.world_run.proofs.rejects.reject_arrived.Given as goal

abbrev pub invariant-loop-rejects : goal.invariant-loop-rejects
invariant-loop-rejects l = Rejected (said_by l.given) l.process l.rejects l.fn.course l.course l.fn.deeds l.deeds
