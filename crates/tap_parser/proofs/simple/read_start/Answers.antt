use Rattle.std.proofs.Common.{◌∙◌, Ok, Err}
use Rattle.tap_base.specs.declared.token.Sign.TheVariants as sign
use Rattle.tap_lexer.specs.Lexeme.{lexemes}
use Rattle.tap_expr.specs.Grammar.{expression}
use Rattle.tap_expr.specs.inner.ExprReading.{Stops}
use Rattle.tap_parser.specs.Systems.{Sized}
use Rattle.tap_parser.proofs.TextBounds.{Name, first_stuck, followed}
use Rattle.tap_parser.proofs.TextParts.{Both, after_answers, after_lacks, joined, passed, sound, valued}
use Rattle.tap_parser.proofs.TextStatements.{Stmts, ToDelay, start_answers, start_value}
use Rattle.tap_parser.specs.inner.Forms.{StmtStops}
use Rattle.tap_parser.specs.declared.kept.Kept.TheVariants.{Whole}
use Rattle.tap_parser.proofs.simple.read_start.Goals as goal

pub returns-in_err-behind : goal.returns-in_err-behind
returns-in_err-behind c = let xs = lexemes c.args.source.now.text.now c.args.source.now.tokens.now in passed Stmts StmtStops xs c.args.at _ _ c.from_residual.ensures.1 (start_answers xs c.args.at (Err _) c.requires.shows (after_lacks sign.Start (Both Name ToDelay) (Stops expression) xs c.args.at _ c.in_err-behind.ensures))

pub returns-in_err-timer : goal.returns-in_err-timer
returns-in_err-timer c = let xs = lexemes c.args.source.now.text.now c.args.source.now.tokens.now in passed Stmts StmtStops xs c.args.at _ _ c.from_residual-in_err-timer.ensures.1 (start_answers xs c.args.at (Err _) c.requires.shows (after_answers sign.Start (Both Name ToDelay) (Stops expression) xs c.args.at c.in_ok-behind.behind (Err _) c.in_ok-behind.ensures (first_stuck Name ToDelay (Stops expression) xs c.in_ok-behind.behind _ c.in_err-timer.ensures)))

pub returns-in_err-behind-2 : goal.returns-in_err-behind-2
returns-in_err-behind-2 c = let xs = lexemes c.args.source.now.text.now c.args.source.now.tokens.now in passed Stmts StmtStops xs c.args.at _ _ c.from_residual-in_err-behind-2.ensures.1 (start_answers xs c.args.at (Err _) c.requires.shows (after_answers sign.Start (Both Name ToDelay) (Stops expression) xs c.args.at c.in_ok-behind.behind (Err _) c.in_ok-behind.ensures (followed Name ToDelay (Stops expression) xs c.in_ok-behind.behind (sound c.in_ok-timer.timer) (Err _) c.in_ok-timer.ensures (after_lacks sign.After Sized (Stops expression) xs c.in_ok-timer.timer.next _ c.in_err-behind-2.ensures))))

pub returns-in_err-delay : goal.returns-in_err-delay
returns-in_err-delay c = let xs = lexemes c.args.source.now.text.now c.args.source.now.tokens.now in passed Stmts StmtStops xs c.args.at _ _ c.from_residual-in_err-delay.ensures.1 (start_answers xs c.args.at (Err _) c.requires.shows (after_answers sign.Start (Both Name ToDelay) (Stops expression) xs c.args.at c.in_ok-behind.behind (Err _) c.in_ok-behind.ensures (followed Name ToDelay (Stops expression) xs c.in_ok-behind.behind (sound c.in_ok-timer.timer) (Err _) c.in_ok-timer.ensures (after_answers sign.After Sized (Stops expression) xs c.in_ok-timer.timer.next c.in_ok-behind-2.behind (Err _) c.in_ok-behind-2.ensures c.in_err-delay.ensures))))

pub returns : goal.returns
returns c = let xs = lexemes c.args.source.now.text.now c.args.source.now.tokens.now in valued Stmts StmtStops xs c.args.at c.in_ok-delay.delay.next _ _ (c.start.ensures ∙ start_value c.in_ok-timer.timer.value c.in_ok-delay.delay.value) (start_answers xs c.args.at (joined (λ a b. (a, b)) (Whole c.in_ok-timer.timer.value) (Ok c.in_ok-delay.delay)) c.requires.shows (after_answers sign.Start (Both Name ToDelay) (Stops expression) xs c.args.at c.in_ok-behind.behind (joined (λ a b. (a, b)) (Whole c.in_ok-timer.timer.value) (Ok c.in_ok-delay.delay)) c.in_ok-behind.ensures (followed Name ToDelay (Stops expression) xs c.in_ok-behind.behind (sound c.in_ok-timer.timer) (Ok c.in_ok-delay.delay) c.in_ok-timer.ensures (after_answers sign.After Sized (Stops expression) xs c.in_ok-timer.timer.next c.in_ok-behind-2.behind (Ok c.in_ok-delay.delay) c.in_ok-behind-2.ensures c.in_ok-delay.ensures))))
