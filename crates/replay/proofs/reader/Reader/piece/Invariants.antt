use Rattle.std.proofs.Common.{length}
use Rattle.replay.specs.inner.Judging.{said_by}
use Rattle.replay.proofs.Progressed.{Gone}
use Rattle.replay.proofs.reader.Reader.piece.Given as goal

abbrev pub invariant-loop-end : goal.invariant-loop-end
invariant-loop-end l = Gone (said_by l.given) l.fn.self.line.items l.fn.self.number l.fn.self.judge l.piece l.rest l.self.line.items l.self.number l.self.judge

abbrev pub decreases-loop-end : goal.decreases-loop-end
decreases-loop-end l = length l.rest
