use Rattle.tap_printer.proofs.Limits.{fewest}
use Rattle.tap_printer.proofs.laws.fewest.Goals as goal

pub returns : goal.returns
returns c = fewest
