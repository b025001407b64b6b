use Rattle.std.proofs.Common.{◌∙◌, Ok, Err}
use Rattle.tap_base.specs.declared.token.Sign.TheVariants as sign
use Rattle.tap_lexer.specs.Lexeme.{lexemes}
use Rattle.tap_lexer.specs.inner.Reading.{Free}
use Rattle.tap_parser.proofs.TextBodies.{comma_stops, paren_ends, no_expr_at_close}
use Rattle.tap_parser.proofs.TextBounds.{Name, first_stuck, followed}
use Rattle.tap_parser.proofs.TextParts.{Both, after_answers, after_lacks, joined, passed, sound, valued}
use Rattle.tap_parser.proofs.TextStatements.{InParens, SentValues, Stmts, ToName, send_answers, send_value}
use Rattle.tap_parser.specs.inner.Forms.{StmtStops}
use Rattle.tap_parser.specs.declared.kept.Kept.TheVariants.{Whole}
use Rattle.tap_parser.proofs.simple.read_send.Goals as goal

pub returns-in_err-behind : goal.returns-in_err-behind
returns-in_err-behind c = let xs = lexemes c.args.source.now.text.now c.args.source.now.tokens.now in passed Stmts StmtStops xs c.args.at _ _ c.from_residual.ensures.1 (send_answers xs c.args.at (Err _) c.requires.shows (after_lacks sign.Send (Both Name InParens) Free xs c.args.at _ c.in_err-behind.ensures))

pub returns-in_err-message : goal.returns-in_err-message
returns-in_err-message c = let xs = lexemes c.args.source.now.text.now c.args.source.now.tokens.now in passed Stmts StmtStops xs c.args.at _ _ c.from_residual-in_err-message.ensures.1 (send_answers xs c.args.at (Err _) c.requires.shows (after_answers sign.Send (Both Name InParens) Free xs c.args.at c.in_ok-behind.behind (Err _) c.in_ok-behind.ensures (first_stuck Name InParens Free xs c.in_ok-behind.behind _ c.in_err-message.ensures)))

pub returns-in_err-behind-2 : goal.returns-in_err-behind-2
returns-in_err-behind-2 c = let xs = lexemes c.args.source.now.text.now c.args.source.now.tokens.now in passed Stmts StmtStops xs c.args.at _ _ c.from_residual-in_err-behind-2.ensures.1 (send_answers xs c.args.at (Err _) c.requires.shows (after_answers sign.Send (Both Name InParens) Free xs c.args.at c.in_ok-behind.behind (Err _) c.in_ok-behind.ensures (followed Name InParens Free xs c.in_ok-behind.behind (sound c.in_ok-message.message) (Err _) c.in_ok-message.ensures (after_lacks sign.Open (Both SentValues ToName) Free xs c.in_ok-message.message.next _ c.in_err-behind-2.ensures))))

pub returns-in_err-values : goal.returns-in_err-values
returns-in_err-values c = let xs = lexemes c.args.source.now.text.now c.args.source.now.tokens.now in passed Stmts StmtStops xs c.args.at _ _ c.from_residual-in_err-values.ensures.1 (send_answers xs c.args.at (Err _) c.requires.shows (after_answers sign.Send (Both Name InParens) Free xs c.args.at c.in_ok-behind.behind (Err _) c.in_ok-behind.ensures (followed Name InParens Free xs c.in_ok-behind.behind (sound c.in_ok-message.message) (Err _) c.in_ok-message.ensures (after_answers sign.Open (Both SentValues ToName) Free xs c.in_ok-message.message.next c.in_ok-behind-2.behind (Err _) c.in_ok-behind-2.ensures (first_stuck SentValues ToName Free xs c.in_ok-behind-2.behind _ c.in_err-values.ensures)))))

pub returns-in_err-behind-3 : goal.returns-in_err-behind-3
returns-in_err-behind-3 c = let xs = lexemes c.args.source.now.text.now c.args.source.now.tokens.now in passed Stmts StmtStops xs c.args.at _ _ c.from_residual-in_err-behind-3.ensures.1 (send_answers xs c.args.at (Err _) c.requires.shows (after_answers sign.Send (Both Name InParens) Free xs c.args.at c.in_ok-behind.behind (Err _) c.in_ok-behind.ensures (followed Name InParens Free xs c.in_ok-behind.behind (sound c.in_ok-message.message) (Err _) c.in_ok-message.ensures (after_answers sign.Open (Both SentValues ToName) Free xs c.in_ok-message.message.next c.in_ok-behind-2.behind (Err _) c.in_ok-behind-2.ensures (followed SentValues ToName Free xs c.in_ok-behind-2.behind c.in_ok-values.values (Err _) c.in_ok-values.ensures (after_lacks sign.To Name Free xs c.in_ok-values.values.next _ c.in_err-behind-3.ensures))))))

pub returns-in_err-to : goal.returns-in_err-to
returns-in_err-to c = let xs = lexemes c.args.source.now.text.now c.args.source.now.tokens.now in passed Stmts StmtStops xs c.args.at _ _ c.from_residual-in_err-to.ensures.1 (send_answers xs c.args.at (Err _) c.requires.shows (after_answers sign.Send (Both Name InParens) Free xs c.args.at c.in_ok-behind.behind (Err _) c.in_ok-behind.ensures (followed Name InParens Free xs c.in_ok-behind.behind (sound c.in_ok-message.message) (Err _) c.in_ok-message.ensures (after_answers sign.Open (Both SentValues ToName) Free xs c.in_ok-message.message.next c.in_ok-behind-2.behind (Err _) c.in_ok-behind-2.ensures (followed SentValues ToName Free xs c.in_ok-behind-2.behind c.in_ok-values.values (Err _) c.in_ok-values.ensures (after_answers sign.To Name Free xs c.in_ok-values.values.next c.in_ok-behind-3.behind (Err _) c.in_ok-behind-3.ensures c.in_err-to.ensures))))))

pub returns : goal.returns
returns c = let xs = lexemes c.args.source.now.text.now c.args.source.now.tokens.now in valued Stmts StmtStops xs c.args.at c.in_ok-to.to.next _ _ (c.send.ensures ∙ send_value c.in_ok-message.message.value c.in_ok-values.values.value c.in_ok-to.to.value) (send_answers xs c.args.at (joined (λ a b. (a, b)) (Whole c.in_ok-message.message.value) (joined (λ a b. (a, b)) c.in_ok-values.values.value (Ok (sound c.in_ok-to.to)))) c.requires.shows (after_answers sign.Send (Both Name InParens) Free xs c.args.at c.in_ok-behind.behind (joined (λ a b. (a, b)) (Whole c.in_ok-message.message.value) (joined (λ a b. (a, b)) c.in_ok-values.values.value (Ok (sound c.in_ok-to.to)))) c.in_ok-behind.ensures (followed Name InParens Free xs c.in_ok-behind.behind (sound c.in_ok-message.message) (joined (λ a b. (a, b)) c.in_ok-values.values.value (Ok (sound c.in_ok-to.to))) c.in_ok-message.ensures (after_answers sign.Open (Both SentValues ToName) Free xs c.in_ok-message.message.next c.in_ok-behind-2.behind (joined (λ a b. (a, b)) c.in_ok-values.values.value (Ok (sound c.in_ok-to.to))) c.in_ok-behind-2.ensures (followed SentValues ToName Free xs c.in_ok-behind-2.behind c.in_ok-values.values (Ok (sound c.in_ok-to.to)) c.in_ok-values.ensures (after_answers sign.To Name Free xs c.in_ok-values.values.next c.in_ok-behind-3.behind (Ok (sound c.in_ok-to.to)) c.in_ok-behind-3.ensures c.in_ok-to.ensures))))))

pub read_until-requires-clause-parted : goal.read_until-requires-clause-parted
read_until-requires-clause-parted c = comma_stops

pub read_until-requires-clause-closed : goal.read_until-requires-clause-closed
read_until-requires-clause-closed c = paren_ends

pub read_until-requires-clause-apart : goal.read_until-requires-clause-apart
read_until-requires-clause-apart c = no_expr_at_close
