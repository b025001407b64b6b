use Rattle.std.proofs.Common.{Ok, Err}
use Rattle.tap_base.specs.declared.token.Sign.TheVariants as sign
use Rattle.tap_lexer.specs.Lexeme.{lexemes}
use Rattle.tap_lexer.specs.inner.Reading.{Free}
use Rattle.tap_parser.proofs.TextBounds.{Name}
use Rattle.tap_parser.proofs.TextParts.{after_answers, after_lacks, passed, sound}
use Rattle.tap_parser.proofs.TextStatements.{Stmts, stop_answers}
use Rattle.tap_parser.specs.inner.Forms.{StmtStops}
use Rattle.tap_parser.proofs.simple.read_stop.Goals as goal

pub returns-in_err-behind : goal.returns-in_err-behind
returns-in_err-behind c = let xs = lexemes c.args.source.now.text.now c.args.source.now.tokens.now in passed Stmts StmtStops xs c.args.at _ _ c.from_residual.ensures.1 (stop_answers xs c.args.at (Err _) c.requires.shows (after_lacks sign.Stop Name Free xs c.args.at _ c.in_err-behind.ensures))

pub returns-in_err-timer : goal.returns-in_err-timer
returns-in_err-timer c = let xs = lexemes c.args.source.now.text.now c.args.source.now.tokens.now in passed Stmts StmtStops xs c.args.at _ _ c.from_residual-in_err-timer.ensures.1 (stop_answers xs c.args.at (Err _) c.requires.shows (after_answers sign.Stop Name Free xs c.args.at c.in_ok-behind.behind (Err _) c.in_ok-behind.ensures c.in_err-timer.ensures))

pub returns : goal.returns
returns c = let xs = lexemes c.args.source.now.text.now c.args.source.now.tokens.now in (stop_answers xs c.args.at (Ok (sound c.in_ok-timer.timer)) c.requires.shows (after_answers sign.Stop Name Free xs c.args.at c.in_ok-behind.behind (Ok (sound c.in_ok-timer.timer)) c.in_ok-behind.ensures c.in_ok-timer.ensures))
