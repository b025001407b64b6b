use Rattle.tap_front.proofs.OneOffence.{never_refused}
use Rattle.tap_front.proofs.laws.never_refused.Goals as goal

pub returns : goal.returns
returns c = never_refused
