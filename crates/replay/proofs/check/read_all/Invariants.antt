use Rattle.std.proofs.Common.{◌≡◌, ℕ, List, length}
use Rattle.replay.specs.inner.Judging.{said_by}
use Rattle.replay.proofs.Reading.{HasRead, ahead}
use Rattle.replay.proofs.check.read_all.Given as goal

abbrev pub invariant-loop-count : goal.invariant-loop-count
invariant-loop-count g l = record {
  read : HasRead (said_by l.given) (g.S.Store.left l.fn.store) (g.S.Store.left l.store) l.fn.reader.line.items l.fn.reader.number l.fn.reader.judge l.reader.line.items l.reader.number l.reader.judge;
  stays : (n : List ℕ) → g.S.Store.contents l.store n ≡ g.S.Store.contents l.fn.store n;
  kept : g.S.Store.faults l.store ≡ g.S.Store.faults l.fn.store;
}

abbrev pub decreases-loop-count : goal.decreases-loop-count
decreases-loop-count g l = ahead l.reader.number (length l.reader.line.items)
