use Rattle.std.proofs.Common.{◌∙◌, Ok, Err}
use Rattle.tap_base.specs.declared.token.Sign.TheVariants as sign
use Rattle.tap_lexer.specs.Rows.{Separated}
use Rattle.tap_lexer.specs.Lexeme.{lexemes}
use Rattle.tap_lexer.specs.inner.Reading.{Free, Lacks}
use Rattle.tap_parser.specs.Declarations.{IsField}
use Rattle.tap_parser.proofs.TextBounds.{Name, first_stuck, followed}
use Rattle.tap_parser.proofs.TextDeclared.{FieldList, Messages, ToFields, end_after_field, message_answers, message_value}
use Rattle.tap_parser.proofs.TextParts.{after_answers, after_lacks, closed_answers, closed_lacks, closed_stuck, joined, passed, sound, valued, Both}
use Rattle.tap_parser.specs.declared.kept.Kept.TheVariants.{Whole}
use Rattle.tap_parser.proofs.declarations.read_message.Goals as goal

pub returns-in_err-behind : goal.returns-in_err-behind
returns-in_err-behind c = let xs = lexemes c.args.source.now.text.now c.args.source.now.tokens.now in passed Messages Free xs c.args.at _ _ c.from_residual.ensures.1 (message_answers xs c.args.at (Err _) (after_lacks sign.Message (Both Name ToFields) Free xs c.args.at _ c.in_err-behind.ensures))

pub returns-in_err-name : goal.returns-in_err-name
returns-in_err-name c = let xs = lexemes c.args.source.now.text.now c.args.source.now.tokens.now in passed Messages Free xs c.args.at _ _ c.from_residual-in_err-name.ensures.1 (message_answers xs c.args.at (Err _) (after_answers sign.Message (Both Name ToFields) Free xs c.args.at c.in_ok-behind.behind (Err _) c.in_ok-behind.ensures (first_stuck Name ToFields Free xs c.in_ok-behind.behind _ c.in_err-name.ensures)))

pub returns-in_err-behind-2 : goal.returns-in_err-behind-2
returns-in_err-behind-2 c = let xs = lexemes c.args.source.now.text.now c.args.source.now.tokens.now in passed Messages Free xs c.args.at _ _ c.from_residual-in_err-behind-2.ensures.1 (message_answers xs c.args.at (Err _) (after_answers sign.Message (Both Name ToFields) Free xs c.args.at c.in_ok-behind.behind (Err _) c.in_ok-behind.ensures (followed Name ToFields Free xs c.in_ok-behind.behind (sound c.in_ok-name.name) (Err _) c.in_ok-name.ensures (after_lacks sign.Begin FieldList Free xs c.in_ok-name.name.next _ c.in_err-behind-2.ensures))))

pub returns-in_err-fields : goal.returns-in_err-fields
returns-in_err-fields c = let xs = lexemes c.args.source.now.text.now c.args.source.now.tokens.now in passed Messages Free xs c.args.at _ _ c.from_residual-in_err-fields.ensures.1 (message_answers xs c.args.at (Err _) (after_answers sign.Message (Both Name ToFields) Free xs c.args.at c.in_ok-behind.behind (Err _) c.in_ok-behind.ensures (followed Name ToFields Free xs c.in_ok-behind.behind (sound c.in_ok-name.name) (Err _) c.in_ok-name.ensures (after_answers sign.Begin FieldList Free xs c.in_ok-name.name.next c.in_ok-behind-2.behind (Err _) c.in_ok-behind-2.ensures (closed_stuck (λ n. Separated IsField sign.Semicolon) (λ us. Lacks sign.Equal us × Lacks sign.Semicolon us) sign.End end_after_field xs c.in_ok-behind-2.behind _ c.in_err-fields.ensures)))))

pub returns-in_err-next : goal.returns-in_err-next
returns-in_err-next c = let xs = lexemes c.args.source.now.text.now c.args.source.now.tokens.now in passed Messages Free xs c.args.at _ _ c.from_residual-in_err-next.ensures.1 (message_answers xs c.args.at (Err _) (after_answers sign.Message (Both Name ToFields) Free xs c.args.at c.in_ok-behind.behind (Err _) c.in_ok-behind.ensures (followed Name ToFields Free xs c.in_ok-behind.behind (sound c.in_ok-name.name) (Err _) c.in_ok-name.ensures (after_answers sign.Begin FieldList Free xs c.in_ok-name.name.next c.in_ok-behind-2.behind (Err _) c.in_ok-behind-2.ensures (closed_lacks (λ n. Separated IsField sign.Semicolon) (λ us. Lacks sign.Equal us × Lacks sign.Semicolon us) sign.End end_after_field xs c.in_ok-behind-2.behind c.in_ok-fields.fields _ c.in_ok-fields.ensures c.in_err-next.ensures)))))

pub returns : goal.returns
returns c = let xs = lexemes c.args.source.now.text.now c.args.source.now.tokens.now in valued Messages Free xs c.args.at c.in_ok-next.next _ _ (c.message.ensures ∙ message_value c.in_ok-name.name.value c.in_ok-fields.fields.value) (message_answers xs c.args.at (joined (λ a b. (a, b)) (Whole c.in_ok-name.name.value) (Ok (record { value = c.in_ok-fields.fields.value; next = c.in_ok-next.next }))) (after_answers sign.Message (Both Name ToFields) Free xs c.args.at c.in_ok-behind.behind (joined (λ a b. (a, b)) (Whole c.in_ok-name.name.value) (Ok (record { value = c.in_ok-fields.fields.value; next = c.in_ok-next.next }))) c.in_ok-behind.ensures (followed Name ToFields Free xs c.in_ok-behind.behind (sound c.in_ok-name.name) (Ok (record { value = c.in_ok-fields.fields.value; next = c.in_ok-next.next })) c.in_ok-name.ensures (after_answers sign.Begin FieldList Free xs c.in_ok-name.name.next c.in_ok-behind-2.behind (Ok (record { value = c.in_ok-fields.fields.value; next = c.in_ok-next.next })) c.in_ok-behind-2.ensures (closed_answers (λ n. Separated IsField sign.Semicolon) (λ us. Lacks sign.Equal us × Lacks sign.Semicolon us) sign.End end_after_field xs c.in_ok-behind-2.behind c.in_ok-next.next c.in_ok-fields.fields c.in_ok-fields.ensures c.in_ok-next.ensures)))))
