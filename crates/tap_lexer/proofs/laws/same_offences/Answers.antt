use Rattle.tap_lexer.proofs.Standing.{offence_stands}
use Rattle.tap_lexer.proofs.Spelled.{offence_spelled}
use Rattle.tap_lexer.proofs.laws.same_offences.Goals as goal

pub returns : goal.returns
returns c = λ text refusal. (offence_stands text refusal, offence_spelled text refusal)
