use Rattle.abstract_run.proofs.Kept.{steps_keep}
use Rattle.abstract_run.proofs.laws.steps_keep_fitting.Goals as goal

pub returns : goal.returns
returns c = steps_keep
