use Rattle.drawn_code.proofs.Ending as Ending
use Rattle.drawn_code.proofs.laws.bodies_can_end.Goals as goal

pub returns : goal.returns
returns c = Ending.bodies_can_end
