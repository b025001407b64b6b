use Rattle.exact_choice.proofs.Drawn.{one_draw}
use Rattle.exact_choice.proofs.laws.one_draw.Goals as goal

pub returns : goal.returns
returns c = one_draw
