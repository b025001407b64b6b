use Rattle.exact_choice.proofs.Rounds.{go_round, not_twice}
use Rattle.exact_choice.proofs.worked.choice_is_worked.Goals as goal

pub returns : goal.returns
returns c = record { round = go_round; twice = not_twice }
