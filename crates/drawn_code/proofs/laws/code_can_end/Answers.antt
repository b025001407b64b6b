use Rattle.drawn_code.proofs.Ending as Ending
use Rattle.drawn_code.proofs.laws.code_can_end.Goals as goal

pub returns : goal.returns
returns c = Ending.code_can_end
