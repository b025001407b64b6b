use Rattle.drawn_choices.proofs.WorkedDraws.{options_are_worked, draws_are_worked, words_are_worked}
use Rattle.drawn_choices.proofs.worked.draws_are_worked.Goals as goal

pub returns : goal.returns
returns c = record { options = options_are_worked; draws = draws_are_worked; words = words_are_worked }
