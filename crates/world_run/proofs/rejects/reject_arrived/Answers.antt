use Rattle.std.proofs.Common.{sym, arith}
use Rattle.world_run.specs.inner.Serving.{said_by}
use Rattle.world_run.proofs.Rejecting.{none_first, none_rejected, one_more_rejected, process_there}
use Rattle.world_run.proofs.rejects.reject_arrived.Goals as goal

pub loop-rejects-init : goal.loop-rejects-init
loop-rejects-init c = none_rejected (said_by c.args.given.now) c.args.course.now c.args.process c.args.deeds.now c.requires.course c.requires.settled

pub returns-in_default-clause-none_left : goal.returns-in_default-clause-none_left
returns-in_default-clause-none_left c below =
    let there = process_there (said_by c.args.given.now) c.args.course.now.state c.args.process c.requires.course.fits c.requires.live in
    let counted = c.loop-rejects.invariant.course.errors.counted in
    none_first c.loop-rejects.course.errors c.args.process (omega (arith, there, counted)) (sym c.in_default.ensures)

pub loop-rejects-preserved : goal.loop-rejects-preserved
loop-rejects-preserved c =
    one_more_rejected (said_by c.args.given.now) c.args.course.now c.loop-rejects.course c.reject.new.course c.args.process c.loop-rejects.rejects _ _ _ c.loop-rejects.invariant c.in_ok-reject.ensures
