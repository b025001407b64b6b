use Rattle.drawn_bodies.proofs.Acts.{actions_drawn}
use Rattle.drawn_bodies.proofs.laws.actions_are_drawn.Goals as goal

pub returns : goal.returns
returns c = actions_drawn
