use Rattle.drawn_choices.proofs.OneDrawn.{one_drawn}
use Rattle.drawn_choices.proofs.laws.one_is_drawn.Goals as goal

pub returns : goal.returns
returns c = one_drawn
