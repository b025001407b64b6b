use Rattle.std.proofs.Common.{ℤ, ap, sym, to_z, of_z, ◌∙◌, rules}
use Rattle.std.proofs.lemmas.Int.{to_z-of_z}
use Rattle.std.specs.Int.{w64}
use Rattle.tap_base.specs.Interval.{from_to}
use Rattle.tap_base.specs.Ranges.{values_of}
use Rattle.drawn_choices.specs.Draws.{option_drawn, word_from}
use Rattle.drawn_steps.proofs.Taken.{noted_with, put_with, takes_option}
use Rattle.drawn_steps.proofs.choosing.choose.Goals as goal

pub returns : goal.returns
returns c =
    let same = to_z-of_z w64 c.draw_value-x.result (search rules) in
    let low = to_z-of_z w64 c.args.lo c.ranges.lo in
    let high = to_z-of_z w64 c.args.hi c.ranges.hi in
    let drawn = ap (λ (a : ℤ). option_drawn (values_of (from_to a c.args.hi)) (word_from c.args.generator.now 0)) (sym low) ∙ ap (λ (b : ℤ). option_drawn (values_of (from_to (to_z w64 (of_z w64 c.args.lo)) b)) (word_from c.args.generator.now 0)) (sym high) ∙ c.draw_value-x.ensures.value in
    takes_option (values_of (from_to c.args.lo c.args.hi)) c.args.r c.draw_value-x.result c.args.core.now c.put.new.self c.args.out.now c.note.new.self c.args.generator.now c.draw_value-x.new.generator
    drawn c.draw_value-x.ensures.moved
    (c.note.ensures ∙ ap (λ (z : ℤ). noted_with z c.args.out.now) same)
    (c.put.ensures ∙ ap (λ (z : ℤ). put_with c.args.r z c.args.core.now) same)
