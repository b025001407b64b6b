use Rattle.std.proofs.Common.{◌≡◌, ◌+◌, ◌-◌, ◌<◌, ◌∙◌, length, ap, sym, arith}
use Rattle.std.specs.List.{insert, remove, swap}
use Rattle.std.proofs.lemmas.List.Edits.{length-remove, length-swap}
use Rattle.abstract_run.proofs.Shifted.{back_in, one_down}
use Rattle.abstract_run.proofs.faults.move_down.Goals as goal

pub loop-step-init : goal.loop-step-init
loop-step-init c = (
  ap length c.cells.view_is,
  λ x e. c.cells.view_is ∙ sym (back_in c.args.cells.now c.args.from x e) ∙ ap (λ k. insert (remove c.args.cells.now c.args.from) k x) (omega arith),
)

pub loop-step-preserved : goal.loop-step-preserved
loop-step-preserved c =
    let xs = c.args.cells.now in
    let from = c.args.from in
    let step = c.loop-step.step in
    let order = c.requires.order in
    let within = c.requires.within in
    let below = c.loop-step-test.true in
    let left = length-remove xs from within in
    let next : from - step ≡ from - (step + 1) + 1 = omega (arith, below, order) in
    let last : from - step - 1 ≡ from - (step + 1) = omega (arith, below, order) in (
      ap length c.swap.ensures.items ∙ length-swap c.loop-step.cells-inside.items.items (from - step) (from - step - 1) ∙ c.loop-step.invariant.0,
      λ x e.
          c.swap.ensures.items
          ∙ ap (λ ys. swap ys (from - step) (from - step - 1)) (c.loop-step.invariant.1 x e)
          ∙ ap (λ k. swap (insert (remove xs from) k x) k (from - step - 1)) next
          ∙ ap (λ k. swap (insert (remove xs from) (from - (step + 1) + 1) x) (from - (step + 1) + 1) k) last
          ∙ one_down x (remove xs from) (from - (step + 1)) (omega (arith, below, order, within, left)),
    )
