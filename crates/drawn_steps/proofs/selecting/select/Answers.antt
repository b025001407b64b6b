use Rattle.std.proofs.Common.{◌≡◌, ◌<◌, ℤ, pos, List, take, drop, map, length, ap, subst, ◌∙◌, Some, arith, rules}
use Rattle.register_code.specs.Instructions.{ones}
use Rattle.drawn_choices.specs.Draws.{option_drawn, word_from}
use Rattle.drawn_steps.proofs.Ones.{selects_more}
use Rattle.drawn_steps.proofs.Taken.{takes_option}
use Rattle.drawn_steps.proofs.selecting.select.Goals as goal

pub returns-else-many-eq1 : goal.returns-else-many-eq1
returns-else-many-eq1 c =
    let run_is : c.run_at-xs.result.now ≡ take c.args.count (drop c.args.first c.args.core.now.registers) = c.run_at-xs.ensures ∙ ap (λ (xs : List ℤ). take c.args.count (drop c.args.first xs)) c.registers.ensures in
    let run = take c.args.count (drop c.args.first c.args.core.now.registers) in
    let many : 1 < length (ones 0 c.run_at-xs.result.now) = search (arith, rules, c.count_ones-many.ensures) in
    let drawn : option_drawn (map pos (ones 0 run)) (word_from c.args.generator.now 0) ≡ Some (pos c.drawn_place-place.result) = subst (λ (xs : List ℤ). option_drawn (map pos (ones 0 xs)) (word_from c.args.generator.now 0) ≡ Some (pos c.drawn_place-place.result)) run_is c.drawn_place-place.ensures.value in
    selects_more c.args.r c.args.count (ones 0 run) c.args.core.now c.settle-else-many-eq1.new.core c.args.out.now c.note_place.new.out c.args.generator.now c.drawn_place-place.new.generator
    (subst (λ (xs : List ℤ). 1 < length (ones 0 xs)) run_is many)
    (takes_option (map pos (ones 0 run)) c.args.r (pos c.drawn_place-place.result) c.args.core.now c.settle-else-many-eq1.new.core c.args.out.now c.note_place.new.out c.args.generator.now c.drawn_place-place.new.generator drawn c.drawn_place-place.ensures.moved c.note_place.ensures c.settle-else-many-eq1.ensures)
