use Rattle.tap_front.proofs.Runs.{accepted_is_checked}
use Rattle.tap_front.proofs.laws.accepted_is_checked.Goals as goal

pub returns : goal.returns
returns c = accepted_is_checked
