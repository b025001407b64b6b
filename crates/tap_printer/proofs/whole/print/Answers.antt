use Rattle.std.proofs.Common.{rules}
use Rattle.tap_printer.proofs.Appends.{text_is}
use Rattle.tap_printer.proofs.whole.print.Goals as goal

pub returns : goal.returns
returns c = search (rules, text_is)
