use Rattle.std.proofs.Common.{◌<ℤ◌, rules}
use Rattle.drawn_choices.proofs.Drawn.{nothing_drawn}
use Rattle.drawn_choices.proofs.drawing.DrawingChoices.take_value.Goals as goal

pub returns-then-range : goal.returns-then-range
returns-then-range c =
    let test = c.if-range.true in
    let turned : c.args.range.hi <ℤ c.args.range.lo = search (rules, test) in
    nothing_drawn c.args.range c.args.self.now turned
