use Rattle.tap_lexer.proofs.One.{one_text}
use Rattle.tap_lexer.proofs.laws.one_outcome.Goals as goal

pub returns : goal.returns
returns c = one_text
