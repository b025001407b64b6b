use Rattle.abstract_run.proofs.GoesOn.{falls_go_on}
use Rattle.abstract_run.proofs.laws.falls_go_on.Goals as goal

pub returns : goal.returns
returns c = falls_go_on
