use Rattle.tap_types.proofs.whole.WholeTrees.{resolves_whole}
use Rattle.tap_types.proofs.laws.resolves_whole.Goals as goal

pub returns : goal.returns
returns c = resolves_whole
