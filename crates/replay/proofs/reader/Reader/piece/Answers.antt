use Rattle.std.proofs.Common.{◌++◌, List, ℕ, Err, subst}
use Rattle.replay.specs.Traces.{Judges}
use Rattle.replay.specs.inner.Judging.{said_by}
use Rattle.replay.proofs.Progressed.{gone_first, gone_on, in_piece}
use Rattle.replay.proofs.reader.Reader.piece.Goals as goal

pub loop-end-init : goal.loop-end-init
loop-end-init c = gone_first (said_by c.args.given.now) c.args.self.now.line.items c.args.self.now.number c.args.self.now.judge c.args.piece.now c.requires.going

pub loop-end-preserved : goal.loop-end-preserved
loop-end-preserved c =
    let done = c.in_default-end_line.ensures in
    gone_on c.in-Some.end.now c.in-Some.behind.now c.end_line.new.self.line.items c.end_line.new.self.number c.end_line.new.self.judge c.loop-end.invariant c.in-Some.ensures.0 done.next done.going done.goes_on

pub returns-in-Err-clause-fault : goal.returns-in-Err-clause-fault
returns-in-Err-clause-fault c = λ start taken behind p.
    let m = said_by c.args.given.now in
    let inv = c.loop-end.invariant in
    let tail = c.in-Some.behind.now in
    let judged = c.in-Err.ensures.fault start (taken ++ inv.gone) (tail ++ behind) (inv.goes_on start taken p) in
    subst (λ (t : List ℕ). Judges m start t (Err c.in-Err.fault)) (in_piece taken inv.gone c.in-Some.end.now tail behind c.args.piece.now c.loop-end.rest.now inv.split c.in-Some.ensures.0) judged
