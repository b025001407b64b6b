use Rattle.std.proofs.Common.{ap, ◌∙◌, ◌+◌}
use Rattle.abstract_run.specs.CellCount.{cells_put}
use Rattle.world_run.specs.inner.Serving.{said_by}
use Rattle.world_run.proofs.OneLabel.{did_one}
use Rattle.world_run.proofs.labels.attempt.Goals as goal

pub returns-in-Ok-clause-tried : goal.returns-in-Ok-clause-tried
returns-in-Ok-clause-tried c =
    let m = said_by c.args.given.now in
    let old = c.args.course.now in
    let l = c.args.label in
    did_one m old (record old { state = c.step.new.state; cells = c.cells_behind-course.result }) l c.in-Ok.sends c.args.deeds.now c.keep.new.self c.in-Ok.ensures.step c.step.ensures.fits c.in-Ok.ensures.sends
    c.in-Ok.ensures.cells c.requires.course.cells (c.cells_behind-course.ensures ∙ ap (λ n. old.cells + (cells_put l + n)) c.len.ensures) c.in_ok-keep-in-Ok.ensures
