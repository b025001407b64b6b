use Rattle.tap_front.proofs.Named.{names_tell_apart}
use Rattle.tap_front.proofs.laws.names_tell_apart.Goals as goal

pub returns : goal.returns
returns c = names_tell_apart
