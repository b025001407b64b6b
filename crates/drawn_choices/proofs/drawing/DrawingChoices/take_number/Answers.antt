use Rattle.std.proofs.Common.{◌^◌, rules, arith}
use Rattle.drawn_choices.proofs.drawing.DrawingChoices.take_number.Goals as goal

pub overflow_cast-x : goal.overflow_cast-x
overflow_cast-x c = let below = c.draw_number-x.ensures.within (2 ^ 63) c.requires in search (rules, below)

pub returns : goal.returns
returns c = let below = c.draw_number-x.ensures.within (2 ^ 63) c.requires in search (rules, below)
