use Rattle.tap_lexer.specs.Lexeme.{lexemes}
use Rattle.tap_parser.proofs.TextWholes.{whole_refused, whole_found, whole_longer}
use Rattle.tap_parser.proofs.whole.read_whole.Goals as goal

pub returns-in_err-found : goal.returns-in_err-found
returns-in_err-found c = whole_refused (lexemes c.args.source.now.text.now c.args.source.now.tokens.now) _ _ c.from_residual.ensures.1 c.in_err-found.ensures

pub returns-then-found-source : goal.returns-then-found-source
returns-then-found-source c = whole_longer c.args.source.now.text.now c.args.source.now.tokens.now c.in_ok-found.found c.in_ok-found.ensures c.if-found-source.true

pub returns : goal.returns
returns c = whole_found c.args.source.now.text.now c.args.source.now.tokens.now c.in_ok-found.found c.in_ok-found.ensures c.if-found-source.false
