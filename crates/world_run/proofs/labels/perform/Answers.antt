use Rattle.std.proofs.Common.{subst, Bool}
use Rattle.world_run.specs.inner.Serving.{DidOne, Tried, said_by}
use Rattle.world_run.proofs.OneLabel.{course_after, did, plain_chooses, plain_draws, plain_rejects}
use Rattle.world_run.proofs.labels.perform.Goals as goal

one : (c : goal.Else-not-branch) → DidOne (said_by c.args.given.now) c.args.label c.args.course.now c.attempt.new.course c.args.deeds.now c.attempt.new.deeds
one c =
    subst (λ (b : Bool). Tried (said_by c.args.given.now) c.args.label c.args.course.now c.attempt.new.course c.args.deeds.now b c.attempt.new.deeds)
    c.if-not-branch.false c.in_ok-attempt.ensures.tried

pub returns-clause-did : goal.returns-clause-did
returns-clause-did c =
    let m = said_by c.args.given.now in
    let old = c.args.course.now in
    did m old c.attempt.new.course c.args.label _ _ (one c) (plain_chooses m old.state c.args.label old.turnstiles c.attempt.new.course.turnstiles c.requires.plain c.attempt.ensures.turnstiles)
    (plain_draws m old.state c.args.label old.generators c.attempt.new.course.generators c.requires.plain c.attempt.ensures.generators)
    (plain_rejects old.state c.args.label old.errors c.attempt.new.course.errors c.requires.plain c.attempt.ensures.errors) c.requires.sized

pub returns-clause-course : goal.returns-clause-course
returns-clause-course c =
    let m = said_by c.args.given.now in
    let old = c.args.course.now in
    course_after m old c.attempt.new.course c.args.label _ _ c.requires.course (one c) (plain_chooses m old.state c.args.label old.turnstiles c.attempt.new.course.turnstiles c.requires.plain c.attempt.ensures.turnstiles)
    (plain_draws m old.state c.args.label old.generators c.attempt.new.course.generators c.requires.plain c.attempt.ensures.generators)
    (plain_rejects old.state c.args.label old.errors c.attempt.new.course.errors c.requires.plain c.attempt.ensures.errors)
