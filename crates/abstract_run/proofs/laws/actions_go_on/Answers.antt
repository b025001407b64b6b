use Rattle.abstract_run.proofs.GoesOn.{actions_go_on}
use Rattle.abstract_run.proofs.laws.actions_go_on.Goals as goal

pub returns : goal.returns
returns c = actions_go_on
