use Rattle.checked_systems.proofs.Running.{checked_runs}
use Rattle.checked_systems.proofs.laws.checked_runs.Goals as goal

pub returns : goal.returns
returns c = checked_runs
