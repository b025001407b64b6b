use Rattle.tap_printer.proofs.ReadBack.{read_again, read_again_only}
use Rattle.tap_printer.proofs.laws.read_again.Goals as goal

pub returns-clause-some : goal.returns-clause-some
returns-clause-some c = read_again

pub returns-clause-only : goal.returns-clause-only
returns-clause-only c = read_again_only
