use Rattle.timed_runs.proofs.DelaysKept.{delays_kept, systems_keep}
use Rattle.timed_runs.proofs.laws.delays_are_kept.Goals as goal

pub returns : goal.returns
returns c = record { law = delays_kept; systems = systems_keep }
