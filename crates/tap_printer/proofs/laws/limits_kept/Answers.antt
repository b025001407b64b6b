use Rattle.tap_printer.proofs.Limits.{limits_kept}
use Rattle.tap_printer.proofs.laws.limits_kept.Goals as goal

pub returns : goal.returns
returns c = limits_kept
