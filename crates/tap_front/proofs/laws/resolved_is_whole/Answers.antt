use Rattle.tap_front.proofs.Wholes.{resolved_is_whole}
use Rattle.tap_front.proofs.laws.resolved_is_whole.Goals as goal

pub returns : goal.returns
returns c = resolved_is_whole
