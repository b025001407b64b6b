use Rattle.tap_parser.proofs.TextOneTree.{one_text}
use Rattle.tap_parser.proofs.laws.one_text.Goals as goal

pub returns : goal.returns
returns c = one_text
