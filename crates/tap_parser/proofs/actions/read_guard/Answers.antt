use Rattle.std.proofs.Common.{Ok, Err}
use Rattle.tap_base.specs.declared.token.Sign.TheVariants as sign
use Rattle.tap_lexer.specs.Lexeme.{lexemes}
use Rattle.tap_lexer.specs.inner.Reading.{Free}
use Rattle.tap_expr.specs.Grammar.{expression}
use Rattle.tap_expr.specs.inner.ExprReading.{Stops}
use Rattle.tap_parser.proofs.TextBodies.{Guards, local_answers, timeout_answers}
use Rattle.tap_parser.proofs.TextBounds.{Name}
use Rattle.tap_parser.proofs.TextParts.{passed, shown_answers, sound, valued}
use Rattle.tap_parser.proofs.actions.read_guard.Goals as goal

pub returns-in_err-timer : goal.returns-in_err-timer
returns-in_err-timer c = let xs = lexemes c.args.source.now.text.now c.args.source.now.tokens.now in passed Guards (Stops expression) xs c.args.at _ _ c.from_residual.ensures.1 (timeout_answers xs c.args.at (Err _) (c.shows-2.ensures.there c.if-shows-2.true) (shown_answers sign.Timeout Name Free xs c.args.at (Err _) (c.shows-2.ensures.there c.if-shows-2.true) c.in_err-timer.ensures))

pub returns-then-shows-2 : goal.returns-then-shows-2
returns-then-shows-2 c = let xs = lexemes c.args.source.now.text.now c.args.source.now.tokens.now in timeout_answers xs c.args.at (Ok (sound c.in_ok-timer.timer)) (c.shows-2.ensures.there c.if-shows-2.true) (shown_answers sign.Timeout Name Free xs c.args.at (Ok (sound c.in_ok-timer.timer)) (c.shows-2.ensures.there c.if-shows-2.true) c.in_ok-timer.ensures)

pub returns-in_err-guard : goal.returns-in_err-guard
returns-in_err-guard c = let xs = lexemes c.args.source.now.text.now c.args.source.now.tokens.now in passed Guards (Stops expression) xs c.args.at _ _ c.from_residual-in_err-guard.ensures.1 (local_answers xs c.args.at (Err _) (c.shows.ensures.lacks c.if-shows.false) (c.shows-2.ensures.lacks c.if-shows-2.false) c.in_err-guard.ensures)

pub returns : goal.returns
returns c = let xs = lexemes c.args.source.now.text.now c.args.source.now.tokens.now in valued Guards (Stops expression) xs c.args.at c.in_ok-guard.guard.next _ _ c.local.ensures (local_answers xs c.args.at (Ok c.in_ok-guard.guard) (c.shows.ensures.lacks c.if-shows.false) (c.shows-2.ensures.lacks c.if-shows-2.false) c.in_ok-guard.ensures)
