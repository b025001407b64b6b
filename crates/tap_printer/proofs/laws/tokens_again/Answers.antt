use Rattle.tap_printer.proofs.ReadBack.{tokens_again}
use Rattle.tap_printer.proofs.laws.tokens_again.Goals as goal

pub returns : goal.returns
returns c = tokens_again
