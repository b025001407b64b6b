use Rattle.tap_parser.proofs.TextEnds.{one_text_front}
use Rattle.tap_parser.proofs.laws.one_text_front.Goals as goal

pub returns : goal.returns
returns c = one_text_front
