use Rattle.abstract_run.proofs.SameSteps.{same_steps}
use Rattle.abstract_run.proofs.laws.same_steps.Goals as goal

pub returns : goal.returns
returns c = same_steps
