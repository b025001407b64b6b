use Rattle.tap_lexer.proofs.Standing.{tokens_stand}
use Rattle.tap_lexer.proofs.Spelled.{tokens_spelled}
use Rattle.tap_lexer.proofs.laws.same_tokens.Goals as goal

pub returns : goal.returns
returns c = λ text ts. (tokens_stand text ts, tokens_spelled text ts)
