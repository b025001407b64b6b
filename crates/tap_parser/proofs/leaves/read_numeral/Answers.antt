use Rattle.std.proofs.lemmas.Int.{ints, to_z-of_z}
use Rattle.std.proofs.Common.{arith}
use Rattle.tap_lexer.specs.Lexeme.{lexeme, lexemes}
use Rattle.tap_parser.proofs.TextBounds.{numeral_answers, numeral_fails}
use Rattle.tap_parser.proofs.leaves.read_numeral.Goals as goal

pub returns-in_default-clause-told : goal.returns-in_default-clause-told
returns-in_default-clause-told c = let xs = lexemes c.args.source.now.text.now c.args.source.now.tokens.now in numeral_fails xs c.args.at c.in_default.ensures.taken

pub returns-clause-told : goal.returns-clause-told
returns-clause-told c = let xs = lexemes c.args.source.now.text.now c.args.source.now.tokens.now in numeral_answers xs c.args.at (lexeme c.args.source.now.text.now c.in-Some.token) _ c.in-Some.ensures.taken (grind (arith, ints, to_z-of_z))
