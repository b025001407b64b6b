use Rattle.tap_front.proofs.Runs.{accepted_is_safe}
use Rattle.tap_front.proofs.laws.accepted_is_safe.Goals as goal

pub returns : goal.returns
returns c = accepted_is_safe
