use Rattle.tap_front.proofs.OneOffence.{one_system_of_text}
use Rattle.tap_front.proofs.laws.one_system_of_text.Goals as goal

pub returns : goal.returns
returns c = one_system_of_text
