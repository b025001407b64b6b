use Rattle.std.proofs.Common.{◌∙◌, Ok, Err}
use Rattle.tap_base.specs.declared.token.Sign.TheVariants as sign
use Rattle.tap_lexer.specs.Lexeme.{lexeme, lexemes}
use Rattle.tap_expr.specs.Grammar.{expression}
use Rattle.tap_expr.specs.inner.ExprReading.{Stops}
use Rattle.tap_parser.specs.Statements.{AreStmts}
use Rattle.tap_parser.specs.Systems.{Sized}
use Rattle.tap_parser.proofs.TextBodies.{Actions, Guards, ToBody, action_answers, action_value, arrow_follows, no_action}
use Rattle.tap_parser.proofs.TextParts.{after_answers, after_lacks, both_answers, both_stuck, joined, passed, valued}
use Rattle.tap_parser.specs.inner.Forms.{BodyStops}
use Rattle.tap_parser.proofs.actions.read_action.Goals as goal

pub returns-in_err-guard : goal.returns-in_err-guard
returns-in_err-guard c = let xs = lexemes c.args.source.now.text.now c.args.source.now.tokens.now in passed Actions BodyStops xs c.args.at _ _ c.from_residual.ensures.1 (action_answers xs c.args.at (lexeme c.args.source.now.text.now c.in-Some.token) (Err _) c.in-Some.ensures.seen (both_stuck Guards ToBody (Stops expression) BodyStops arrow_follows xs c.args.at _ c.in_err-guard.ensures))

pub returns-in_err-behind : goal.returns-in_err-behind
returns-in_err-behind c = let xs = lexemes c.args.source.now.text.now c.args.source.now.tokens.now in passed Actions BodyStops xs c.args.at _ _ c.from_residual-in_err-behind.ensures.1 (action_answers xs c.args.at (lexeme c.args.source.now.text.now c.in-Some.token) (Err _) c.in-Some.ensures.seen (both_answers Guards ToBody (Stops expression) BodyStops arrow_follows xs c.args.at c.in_ok-guard.guard (Err _) c.in_ok-guard.ensures (after_lacks sign.Arrow (λ n. AreStmts (Sized n)) BodyStops xs c.in_ok-guard.guard.next _ c.in_err-behind.ensures)))

pub returns-in_err-body : goal.returns-in_err-body
returns-in_err-body c = let xs = lexemes c.args.source.now.text.now c.args.source.now.tokens.now in passed Actions BodyStops xs c.args.at _ _ c.from_residual-in_err-body.ensures.1 (action_answers xs c.args.at (lexeme c.args.source.now.text.now c.in-Some.token) (Err _) c.in-Some.ensures.seen (both_answers Guards ToBody (Stops expression) BodyStops arrow_follows xs c.args.at c.in_ok-guard.guard (Err _) c.in_ok-guard.ensures (after_answers sign.Arrow (λ n. AreStmts (Sized n)) BodyStops xs c.in_ok-guard.guard.next c.in_ok-behind.behind (Err _) c.in_ok-behind.ensures c.in_err-body.ensures)))

pub returns : goal.returns
returns c = let xs = lexemes c.args.source.now.text.now c.args.source.now.tokens.now in valued Actions BodyStops xs c.args.at c.in_ok-body.body.next _ _ (c.action.ensures ∙ action_value _ c.in_ok-guard.guard.value c.in_ok-body.body.value) (action_answers xs c.args.at (lexeme c.args.source.now.text.now c.in-Some.token) (joined (λ a b. (a, b)) c.in_ok-guard.guard.value (Ok c.in_ok-body.body)) c.in-Some.ensures.seen (both_answers Guards ToBody (Stops expression) BodyStops arrow_follows xs c.args.at c.in_ok-guard.guard (Ok c.in_ok-body.body) c.in_ok-guard.ensures (after_answers sign.Arrow (λ n. AreStmts (Sized n)) BodyStops xs c.in_ok-guard.guard.next c.in_ok-behind.behind (Ok c.in_ok-body.body) c.in_ok-behind.ensures c.in_ok-body.ensures)))

pub returns-in_default : goal.returns-in_default
returns-in_default c = let xs = lexemes c.args.source.now.text.now c.args.source.now.tokens.now in no_action xs c.args.at c.in_default.ensures.seen
