use Rattle.tap_parser.proofs.TextEnds.{one_text_end}
use Rattle.tap_parser.proofs.laws.one_text_end.Goals as goal

pub returns : goal.returns
returns c = one_text_end
