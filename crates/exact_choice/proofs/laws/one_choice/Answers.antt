use Rattle.exact_choice.proofs.Chosen.{one_chosen}
use Rattle.exact_choice.proofs.laws.one_choice.Goals as goal

pub returns : goal.returns
returns c = one_chosen
