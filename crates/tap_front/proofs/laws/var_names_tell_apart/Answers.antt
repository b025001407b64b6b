use Rattle.tap_front.proofs.VarNames.{var_names_tell_apart}
use Rattle.tap_front.proofs.laws.var_names_tell_apart.Goals as goal

pub returns : goal.returns
returns c = var_names_tell_apart
