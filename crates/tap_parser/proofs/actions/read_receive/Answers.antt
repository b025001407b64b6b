use Rattle.std.proofs.Common.{Ok, Err}
use Rattle.tap_base.specs.declared.token.Sign.TheVariants as sign
use Rattle.tap_lexer.specs.Lexeme.{lexemes}
use Rattle.tap_lexer.specs.inner.Reading.{Free}
use Rattle.tap_expr.specs.Grammar.{expression}
use Rattle.tap_expr.specs.inner.ExprReading.{Stops}
use Rattle.tap_parser.proofs.TextBodies.{Guards, ToSender, receive_answers}
use Rattle.tap_parser.proofs.TextBounds.{Name, first_stuck, followed}
use Rattle.tap_parser.proofs.TextParts.{Both, after_answers, after_lacks, joined, passed, sound}
use Rattle.tap_parser.specs.declared.kept.Kept.TheVariants.{Whole}
use Rattle.tap_parser.proofs.actions.read_receive.Goals as goal

pub returns-in_err-behind : goal.returns-in_err-behind
returns-in_err-behind c = let xs = lexemes c.args.source.now.text.now c.args.source.now.tokens.now in passed Guards (Stops expression) xs c.args.at _ _ c.from_residual.ensures.1 (receive_answers xs c.args.at (Err _) c.requires.shows (after_lacks sign.Rcv (Both Name ToSender) Free xs c.args.at _ c.in_err-behind.ensures))

pub returns-in_err-message : goal.returns-in_err-message
returns-in_err-message c = let xs = lexemes c.args.source.now.text.now c.args.source.now.tokens.now in passed Guards (Stops expression) xs c.args.at _ _ c.from_residual-in_err-message.ensures.1 (receive_answers xs c.args.at (Err _) c.requires.shows (after_answers sign.Rcv (Both Name ToSender) Free xs c.args.at c.in_ok-behind.behind (Err _) c.in_ok-behind.ensures (first_stuck Name ToSender Free xs c.in_ok-behind.behind _ c.in_err-message.ensures)))

pub returns-in_err-behind-2 : goal.returns-in_err-behind-2
returns-in_err-behind-2 c = let xs = lexemes c.args.source.now.text.now c.args.source.now.tokens.now in passed Guards (Stops expression) xs c.args.at _ _ c.from_residual-in_err-behind-2.ensures.1 (receive_answers xs c.args.at (Err _) c.requires.shows (after_answers sign.Rcv (Both Name ToSender) Free xs c.args.at c.in_ok-behind.behind (Err _) c.in_ok-behind.ensures (followed Name ToSender Free xs c.in_ok-behind.behind (sound c.in_ok-message.message) (Err _) c.in_ok-message.ensures (after_lacks sign.From Name Free xs c.in_ok-message.message.next _ c.in_err-behind-2.ensures))))

pub returns-in_err-from : goal.returns-in_err-from
returns-in_err-from c = let xs = lexemes c.args.source.now.text.now c.args.source.now.tokens.now in passed Guards (Stops expression) xs c.args.at _ _ c.from_residual-in_err-from.ensures.1 (receive_answers xs c.args.at (Err _) c.requires.shows (after_answers sign.Rcv (Both Name ToSender) Free xs c.args.at c.in_ok-behind.behind (Err _) c.in_ok-behind.ensures (followed Name ToSender Free xs c.in_ok-behind.behind (sound c.in_ok-message.message) (Err _) c.in_ok-message.ensures (after_answers sign.From Name Free xs c.in_ok-message.message.next c.in_ok-behind-2.behind (Err _) c.in_ok-behind-2.ensures c.in_err-from.ensures))))

pub returns : goal.returns
returns c = let xs = lexemes c.args.source.now.text.now c.args.source.now.tokens.now in (receive_answers xs c.args.at (joined (λ a b. (a, b)) (Whole c.in_ok-message.message.value) (Ok (sound c.in_ok-from.from))) c.requires.shows (after_answers sign.Rcv (Both Name ToSender) Free xs c.args.at c.in_ok-behind.behind (joined (λ a b. (a, b)) (Whole c.in_ok-message.message.value) (Ok (sound c.in_ok-from.from))) c.in_ok-behind.ensures (followed Name ToSender Free xs c.in_ok-behind.behind (sound c.in_ok-message.message) (Ok (sound c.in_ok-from.from)) c.in_ok-message.ensures (after_answers sign.From Name Free xs c.in_ok-message.message.next c.in_ok-behind-2.behind (Ok (sound c.in_ok-from.from)) c.in_ok-behind-2.ensures c.in_ok-from.ensures))))
