use Rattle.std.proofs.Common.{◌<◌, ◌^◌, ◌∙◌, Bool, sym, subst, refl, arith}
use Rattle.abstract_run.specs.declared.label.Label.TheVariants as label
use Rattle.world_run.specs.inner.Serving.{Tried, said_by}
use Rattle.world_run.proofs.Rejecting.{can_reject, never_refused, one_rejected, peer_there, process_there}
use Rattle.world_run.proofs.rejects.reject.Goals as goal

pub unreachable-requires : goal.unreachable-requires
unreachable-requires c =
    let x = can_reject (said_by c.args.given.now) c.args.course.now c.args.process c.args.from c.requires.course c.requires.settled c.requires.live c.requires.first in
    c.in_default.not-Some x.0 (c.first_error.ensures ∙ x.1)

pub unreachable-requires-then-not-branch : goal.unreachable-requires-then-not-branch
unreachable-requires-then-not-branch c =
    let m = said_by c.args.given.now in
    let l = label.Reject c.args.from c.args.process c.in-Some.place in
    let refused = subst (λ (b : Bool). Tried m l c.args.course.now c.attempt.new.course c.args.deeds.now b c.attempt.new.deeds) c.if-not-branch.true c.in_ok-attempt.ensures.tried in
    never_refused m c.args.course.now.state c.args.process c.args.from c.in-Some.place c.requires.settled c.requires.live (sym c.in-Some.ensures) refused.0

pub returns : goal.returns
returns c =
    let m = said_by c.args.given.now in
    let old = c.args.course.now in
    let l = label.Reject c.args.from c.args.process c.in-Some.place in
    let d = subst (λ (b : Bool). Tried m l old c.attempt.new.course c.args.deeds.now b c.attempt.new.deeds) c.if-not-branch.false c.in_ok-attempt.ensures.tried in
    let short : c.in-Some.place < 2 ^ 32 = omega arith in
    one_rejected m old c.attempt.new.course (record c.attempt.new.course { errors = c.take_first.new.errors }) c.args.process c.args.from c.in-Some.place _ _ c.requires.course c.requires.settled
    (process_there m old.state c.args.process c.requires.course.fits c.requires.live) (peer_there m old.state c.args.from c.args.process c.in-Some.place c.requires.course.fits (sym c.in-Some.ensures)) short
    c.requires.first (sym c.in-Some.ensures) d c.attempt.ensures.turnstiles c.attempt.ensures.generators c.attempt.ensures.errors c.take_first.ensures refl refl refl refl
