use Rattle.std.proofs.Common.{List, Bool, sym, subst}
use Rattle.world_run.specs.inner.Serving.{said_by}
use Rattle.world_run.proofs.Cursors.{AreTold, chose_at, counted_at, cursors_chosen}
use Rattle.world_run.proofs.turn.choose.Goals as goal

pub pick-requires-clause-counted : goal.pick-requires-clause-counted
pick-requires-clause-counted c =
    let a = c.args in
    let told = subst (λ (xs : List Bool). AreTold a.given.now.system.now a.course.now.state a.process xs) (sym c.as_slice.ensures) c.in_ok-enabled.ensures in
    counted_at a.given.now.system.now a.course.now.state a.process a.course.now.turnstiles c.as_slice.result.now c.requires.course.cursors c.requires.there told

pub returns-clause-chose : goal.returns-clause-chose
returns-clause-chose c =
    let a = c.args in
    let told = subst (λ (xs : List Bool). AreTold a.given.now.system.now a.course.now.state a.process xs) (sym c.as_slice.ensures) c.in_ok-enabled.ensures in
    chose_at a.given.now.system.now a.course.now.state a.process a.course.now.turnstiles c.pick.new.turnstiles c.as_slice.result.now c.pick.result c.requires.course.cursors c.requires.there told c.pick.ensures

pub returns-clause-course : goal.returns-clause-course
returns-clause-course c =
    let a = c.args in
    let told = subst (λ (xs : List Bool). AreTold a.given.now.system.now a.course.now.state a.process xs) (sym c.as_slice.ensures) c.in_ok-enabled.ensures in
    let x = chose_at a.given.now.system.now a.course.now.state a.process a.course.now.turnstiles c.pick.new.turnstiles c.as_slice.result.now c.pick.result c.requires.course.cursors c.requires.there told c.pick.ensures in
    record {
      fits = c.requires.course.fits;
      cursors = cursors_chosen (said_by a.given.now) a.course.now.state a.process a.course.now.turnstiles c.pick.new.turnstiles c.pick.result x c.requires.course.cursors;
      generators = c.requires.course.generators;
      errors = c.requires.course.errors;
      cells = c.requires.course.cells;
    }
