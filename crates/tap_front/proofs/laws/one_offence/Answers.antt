use Rattle.tap_front.proofs.OneOffence.{one_offence}
use Rattle.tap_front.proofs.laws.one_offence.Goals as goal

pub returns : goal.returns
returns c = one_offence
