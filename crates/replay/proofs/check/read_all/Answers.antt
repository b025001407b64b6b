use Rattle.std.proofs.Common.{◌∙◌, Err}
use Rattle.replay.specs.Traces.{Judges}
use Rattle.replay.specs.inner.Judging.{said_by}
use Rattle.replay.proofs.Reading.{fault_told, read_more}
use Rattle.replay.proofs.check.read_all.Goals as goal

pub loop-count-preserved : goal.loop-count-preserved
loop-count-preserved g c =
    let inv = c.loop-count.invariant in
    let done = c.in_default.ensures in
    record {
      read = read_more _ c.piece.new.self.line.items c.piece.new.self.number c.piece.new.self.judge inv.read c.in_ok-count.ensures.gives.0 done.going done.goes_on;
      stays = λ n. c.in_ok-count.ensures.stays n ∙ inv.stays n;
      kept = c.in_ok-count.ensures.cause.kept ∙ inv.kept;
    }

pub returns-in-Err-clause-fault : goal.returns-in-Err-clause-fault
returns-in-Err-clause-fault g c = λ start p.
    let read = c.loop-count.invariant.read in
    fault_told (g.S.Store.left c.args.store.now) (g.S.Store.left c.loop-count.store) (g.S.Store.left c.read.new.self) read.taken _ (λ text. Judges (said_by c.args.given.now) start text (Err c.in-Err.fault))
    read.parts c.in_ok-count.ensures.gives.0 (λ behind. c.in-Err.ensures.fault start read.taken behind (read.goes_on start p))
