use Rattle.tap_printer.proofs.AgainTrees.{spelled_again}
use Rattle.tap_printer.proofs.laws.spelled_again.Goals as goal

pub returns : goal.returns
returns c = spelled_again
