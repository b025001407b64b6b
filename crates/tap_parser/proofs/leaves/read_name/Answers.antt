use Rattle.tap_lexer.specs.Lexeme.{lexeme, lexemes}
use Rattle.tap_parser.proofs.TextBounds.{name_answers, name_fails}
use Rattle.tap_parser.proofs.leaves.read_name.Goals as goal

pub returns-in_default : goal.returns-in_default
returns-in_default c = let xs = lexemes c.args.source.now.text.now c.args.source.now.tokens.now in name_fails xs c.args.at c.in_default.ensures.taken

pub returns : goal.returns
returns c = let xs = lexemes c.args.source.now.text.now c.args.source.now.tokens.now in name_answers xs c.args.at (lexeme c.args.source.now.text.now c.in-Some.token) _ c.in-Some.ensures.taken c.in_ok-name.ensures
