use Rattle.tap_front.proofs.Runs.{accepted_runs}
use Rattle.tap_front.proofs.laws.accepted_runs.Goals as goal

pub returns : goal.returns
returns c = accepted_runs
