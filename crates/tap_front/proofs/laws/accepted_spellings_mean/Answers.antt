use Rattle.tap_front.proofs.Runs.{accepted_spellings_mean}
use Rattle.tap_front.proofs.laws.accepted_spellings_mean.Goals as goal

pub returns : goal.returns
returns c = accepted_spellings_mean
