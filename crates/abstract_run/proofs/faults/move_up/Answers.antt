use Rattle.std.proofs.Common.{◌≡◌, ◌+◌, ◌<◌, ◌∙◌, length, ap, sym, arith}
use Rattle.std.specs.List.{insert, remove, swap}
use Rattle.std.proofs.lemmas.List.Edits.{length-remove, length-swap}
use Rattle.abstract_run.proofs.Shifted.{back_in, one_up}
use Rattle.abstract_run.proofs.faults.move_up.Goals as goal

pub loop-at-init : goal.loop-at-init
loop-at-init c = (ap length c.cells.view_is, λ x e. c.cells.view_is ∙ sym (back_in c.args.cells.now c.args.from x e))

pub loop-at-preserved : goal.loop-at-preserved
loop-at-preserved c =
    let xs = c.args.cells.now in
    let order = c.requires.order in
    let within = c.requires.within in
    let below = c.loop-at-test.true in
    let left = length-remove xs c.args.from (omega (arith, order, within)) in (
      ap length c.swap.ensures.items ∙ length-swap c.loop-at.cells-inside.items.items c.loop-at.at (c.loop-at.at + 1) ∙ c.loop-at.invariant.0,
      λ x e.
          c.swap.ensures.items
          ∙ ap (λ ys. swap ys c.loop-at.at (c.loop-at.at + 1)) (c.loop-at.invariant.1 x e)
          ∙ one_up x (remove xs c.args.from) c.loop-at.at (omega (arith, below, within, left)),
    )

pub returns : goal.returns
returns c =
    let order = c.requires.order in
    let most = c.loop-at.auto.at-end order in
    let least = c.loop-at-test.false in
    λ x e. c.loop-at.invariant.1 x e ∙ ap (λ k. insert (remove c.args.cells.now c.args.from) k x) (omega (arith, most, least))
