use Rattle.drawn_bodies.proofs.AllDrawn.{all_drawn}
use Rattle.drawn_bodies.proofs.laws.bodies_are_drawn.Goals as goal

pub returns : goal.returns
returns c = all_drawn
