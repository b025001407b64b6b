use Rattle.std.proofs.Common.{◌∙◌, Bool, true, false, List, ℕ, subst, sym, ap}
use Rattle.abstract_run.specs.declared.label.Label.TheVariants as label
use Rattle.exact_choice.specs.Rejects.{one_more}
use Rattle.world_run.specs.declared.course.Course.{Course}
use Rattle.world_run.specs.inner.Serving.{Tried, said_by}
use Rattle.world_run.proofs.Events.{arrival, arrival_course, two_there, with_errors}
use Rattle.world_run.proofs.Leaves.{void_possible}
use Rattle.world_run.proofs.serve.arrive.Goals as goal

pub perform-requires-clause-possible : goal.perform-requires-clause-possible
perform-requires-clause-possible c =
    let m = said_by c.args.given.now in
    let old = c.args.course.now in
    let refused = subst (λ (b : Bool). Tried m (label.Arrive c.args.from c.args.to) old c.attempt.new.course c.args.deeds.now b c.attempt.new.deeds) c.if-not-branch.true c.in_ok-attempt.ensures.tried in
    void_possible m c.attempt.new.course.state (ap (λ (x : Course). x.state.falling) refused.1 ∙ c.requires.steady.settled)

pub returns-in_ok-one_more-clause-did : goal.returns-in_ok-one_more-clause-did
returns-in_ok-one_more-clause-did c =
    let m = said_by c.args.given.now in
    let old = c.args.course.now in
    let new = c.attempt.new.course in
    let l = label.Arrive c.args.from c.args.to in
    let d = subst (λ (b : Bool). Tried m l old new c.args.deeds.now b c.attempt.new.deeds) c.if-not-branch.false c.in_ok-attempt.ensures.tried in
    let two = two_there c.args.given.now.system.now c.args.from c.args.to c.requires.two in
    arrival m old (record new { errors = c.one_more.new.errors }) c.args.from c.args.to true _ _ two.0 two.1 (sym c.if-bad.true ∙ c.arrives_bad-bad.ensures) (with_errors m old new l c.one_more.new.errors _ _ d)
    c.attempt.ensures.turnstiles c.attempt.ensures.generators (c.in_ok-one_more.ensures ∙ ap (λ (es : List (List ℕ)). one_more c.args.from c.args.to es) c.attempt.ensures.errors)

pub returns-in_ok-one_more-clause-course : goal.returns-in_ok-one_more-clause-course
returns-in_ok-one_more-clause-course c =
    let m = said_by c.args.given.now in
    let old = c.args.course.now in
    let new = c.attempt.new.course in
    let l = label.Arrive c.args.from c.args.to in
    let d = subst (λ (b : Bool). Tried m l old new c.args.deeds.now b c.attempt.new.deeds) c.if-not-branch.false c.in_ok-attempt.ensures.tried in
    arrival_course m old (record new { errors = c.one_more.new.errors }) c.args.from c.args.to true _ _ c.requires.steady.whole (sym c.if-bad.true ∙ c.arrives_bad-bad.ensures)
    (with_errors m old new l c.one_more.new.errors _ _ d) c.attempt.ensures.turnstiles c.attempt.ensures.generators (c.in_ok-one_more.ensures ∙ ap (λ (es : List (List ℕ)). one_more c.args.from c.args.to es) c.attempt.ensures.errors)

pub returns-else-bad-clause-did : goal.returns-else-bad-clause-did
returns-else-bad-clause-did c =
    let m = said_by c.args.given.now in
    let old = c.args.course.now in
    let new = c.attempt.new.course in
    let l = label.Arrive c.args.from c.args.to in
    let d = subst (λ (b : Bool). Tried m l old new c.args.deeds.now b c.attempt.new.deeds) c.if-not-branch.false c.in_ok-attempt.ensures.tried in
    let two = two_there c.args.given.now.system.now c.args.from c.args.to c.requires.two in
    arrival m old new c.args.from c.args.to false _ _ two.0 two.1 (sym c.if-bad.false ∙ c.arrives_bad-bad.ensures) d c.attempt.ensures.turnstiles c.attempt.ensures.generators c.attempt.ensures.errors

pub returns-else-bad-clause-course : goal.returns-else-bad-clause-course
returns-else-bad-clause-course c =
    let m = said_by c.args.given.now in
    let old = c.args.course.now in
    let new = c.attempt.new.course in
    let l = label.Arrive c.args.from c.args.to in
    let d = subst (λ (b : Bool). Tried m l old new c.args.deeds.now b c.attempt.new.deeds) c.if-not-branch.false c.in_ok-attempt.ensures.tried in
    arrival_course m old new c.args.from c.args.to false _ _ c.requires.steady.whole (sym c.if-bad.false ∙ c.arrives_bad-bad.ensures) d c.attempt.ensures.turnstiles c.attempt.ensures.generators c.attempt.ensures.errors
