use Rattle.std.proofs.Common.{◌∙◌, Bool, subst, ap}
use Rattle.world_run.specs.declared.course.Course.{Course}
use Rattle.world_run.specs.inner.Serving.{Tried, said_by}
use Rattle.world_run.proofs.Events.{done_or_void}
use Rattle.world_run.proofs.Leaves.{void_possible}
use Rattle.world_run.proofs.OneLabel.{course_after, did, plain_chooses, plain_draws, plain_rejects}
use Rattle.world_run.proofs.serve.try_plain.Goals as goal

pub returns-then-branch-clause-did : goal.returns-then-branch-clause-did
returns-then-branch-clause-did c =
    let m = said_by c.args.given.now in
    let old = c.args.course.now in
    let new = c.attempt.new.course in
    let l = c.args.label in
    let d = subst (λ (b : Bool). Tried m l old new c.args.deeds.now b c.attempt.new.deeds) c.if-branch.true c.in_ok-attempt.ensures.tried in
    done_or_void m old new l new.state d.sends _ _ d.ran
    (did m old new l _ _ d (plain_chooses m old.state l old.turnstiles new.turnstiles c.requires.plain c.attempt.ensures.turnstiles) (plain_draws m old.state l old.generators new.generators c.requires.plain c.attempt.ensures.generators) (plain_rejects old.state l old.errors new.errors c.requires.plain c.attempt.ensures.errors)
    c.requires.sized)

pub returns-then-branch-clause-course : goal.returns-then-branch-clause-course
returns-then-branch-clause-course c =
    let m = said_by c.args.given.now in
    let old = c.args.course.now in
    let new = c.attempt.new.course in
    let l = c.args.label in
    let d = subst (λ (b : Bool). Tried m l old new c.args.deeds.now b c.attempt.new.deeds) c.if-branch.true c.in_ok-attempt.ensures.tried in
    course_after m old new l _ _ c.requires.steady.whole d (plain_chooses m old.state l old.turnstiles new.turnstiles c.requires.plain c.attempt.ensures.turnstiles) (plain_draws m old.state l old.generators new.generators c.requires.plain c.attempt.ensures.generators)
    (plain_rejects old.state l old.errors new.errors c.requires.plain c.attempt.ensures.errors)

pub perform-requires-clause-possible : goal.perform-requires-clause-possible
perform-requires-clause-possible c =
    let m = said_by c.args.given.now in
    let old = c.args.course.now in
    let refused = subst (λ (b : Bool). Tried m c.args.label old c.attempt.new.course c.args.deeds.now b c.attempt.new.deeds) c.if-branch.false c.in_ok-attempt.ensures.tried in
    void_possible m c.attempt.new.course.state (ap (λ (x : Course). x.state.falling) refused.1 ∙ c.requires.steady.settled)
