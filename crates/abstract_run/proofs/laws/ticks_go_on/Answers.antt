use Rattle.abstract_run.proofs.GoesOn.{ticks_go_on}
use Rattle.abstract_run.proofs.laws.ticks_go_on.Goals as goal

pub returns : goal.returns
returns c = ticks_go_on
