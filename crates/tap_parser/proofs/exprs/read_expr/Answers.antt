use Rattle.tap_lexer.specs.Lexeme.{lexemes}
use Rattle.tap_expr.specs.Grammar.{expression}
use Rattle.tap_expr.specs.inner.ExprReading.{Stops}
use Rattle.tap_parser.specs.Systems.{Sized}
use Rattle.tap_parser.proofs.TextExprs.{expr_answers, expr_stuck}
use Rattle.tap_parser.proofs.TextParts.{passed}
use Rattle.tap_parser.proofs.exprs.read_expr.Goals as goal

pub returns-in_err-found : goal.returns-in_err-found
returns-in_err-found c = let xs = lexemes c.args.source.now.text.now c.args.source.now.tokens.now in passed Sized (Stops expression) xs c.args.at _ _ c.from_residual.ensures.1 (expr_stuck xs c.args.at _ c.in_err-found.ensures)

pub returns : goal.returns
returns c = let xs = lexemes c.args.source.now.text.now c.args.source.now.tokens.now in expr_answers xs c.args.at c.in_ok-found.found _ c.kept.ensures c.in_ok-found.ensures
