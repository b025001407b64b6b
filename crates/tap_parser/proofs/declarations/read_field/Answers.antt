use Rattle.std.proofs.lemmas.Int.{ints, to_z-of_z}
use Rattle.std.proofs.Common.{Ok, Err, ap, arith}
use Rattle.tap_base.specs.declared.token.Sign.TheVariants as sign
use Rattle.tap_lexer.specs.Lexeme.{lexemes}
use Rattle.tap_lexer.specs.inner.Reading.{Lacks}
use Rattle.tap_parser.specs.Declarations.{IsField}
use Rattle.tap_parser.proofs.TextBounds.{Name, Number, first_stuck, followed}
use Rattle.tap_parser.proofs.TextDeclared.{Fixed, ToFixed, ToWidth, field_answers, Fields}
use Rattle.tap_parser.proofs.TextParts.{after_answers, after_lacks, joined, sound, told_passed, Both, valued}
use Rattle.tap_parser.specs.declared.kept.Kept.TheVariants.{Whole}
use Rattle.tap_parser.proofs.declarations.read_field.Goals as goal

pub returns-in_err-name : goal.returns-in_err-name
returns-in_err-name c = let xs = lexemes c.args.source.now.text.now c.args.source.now.tokens.now in told_passed IsField (Lacks sign.Equal) xs c.args.at _ _ c.from_residual.ensures.1 (field_answers xs c.args.at (Err _) (first_stuck Name ToWidth (Lacks sign.Equal) xs c.args.at _ c.in_err-name.ensures))

pub returns-in_err-behind : goal.returns-in_err-behind
returns-in_err-behind c = let xs = lexemes c.args.source.now.text.now c.args.source.now.tokens.now in told_passed IsField (Lacks sign.Equal) xs c.args.at _ _ c.from_residual-in_err-behind.ensures.1 (field_answers xs c.args.at (Err _) (followed Name ToWidth (Lacks sign.Equal) xs c.args.at (sound c.in_ok-name.name) (Err _) c.in_ok-name.ensures (after_lacks sign.Colon (Both Number ToFixed) (Lacks sign.Equal) xs c.in_ok-name.name.next _ c.in_err-behind.ensures)))

pub returns-in_err-width : goal.returns-in_err-width
returns-in_err-width c = let xs = lexemes c.args.source.now.text.now c.args.source.now.tokens.now in told_passed IsField (Lacks sign.Equal) xs c.args.at _ _ c.from_residual-in_err-width.ensures.1 (field_answers xs c.args.at (Err _) (followed Name ToWidth (Lacks sign.Equal) xs c.args.at (sound c.in_ok-name.name) (Err _) c.in_ok-name.ensures (after_answers sign.Colon (Both Number ToFixed) (Lacks sign.Equal) xs c.in_ok-name.name.next c.in_ok-behind.behind (Err _) c.in_ok-behind.ensures (first_stuck Number ToFixed (Lacks sign.Equal) xs c.in_ok-behind.behind _ c.in_err-width.ensures.told))))

pub returns-in_err-behind-2 : goal.returns-in_err-behind-2
returns-in_err-behind-2 c = let xs = lexemes c.args.source.now.text.now c.args.source.now.tokens.now in told_passed IsField (Lacks sign.Equal) xs c.args.at _ _ c.from_residual-in_err-behind-2.ensures.1 (field_answers xs c.args.at (Err _) (followed Name ToWidth (Lacks sign.Equal) xs c.args.at (sound c.in_ok-name.name) (Err _) c.in_ok-name.ensures (after_answers sign.Colon (Both Number ToFixed) (Lacks sign.Equal) xs c.in_ok-name.name.next c.in_ok-behind.behind (Err _) c.in_ok-behind.ensures (followed Number ToFixed (Lacks sign.Equal) xs c.in_ok-behind.behind (sound c.in_ok-width.width) (Err _) c.in_ok-width.ensures.told (after_lacks sign.Bits Fixed (Lacks sign.Equal) xs c.in_ok-width.width.next _ c.in_err-behind-2.ensures)))))

pub returns-in_err-fixed : goal.returns-in_err-fixed
returns-in_err-fixed c = let xs = lexemes c.args.source.now.text.now c.args.source.now.tokens.now in told_passed IsField (Lacks sign.Equal) xs c.args.at _ _ c.from_residual-in_err-fixed.ensures.1 (field_answers xs c.args.at (Err _) (followed Name ToWidth (Lacks sign.Equal) xs c.args.at (sound c.in_ok-name.name) (Err _) c.in_ok-name.ensures (after_answers sign.Colon (Both Number ToFixed) (Lacks sign.Equal) xs c.in_ok-name.name.next c.in_ok-behind.behind (Err _) c.in_ok-behind.ensures (followed Number ToFixed (Lacks sign.Equal) xs c.in_ok-behind.behind (sound c.in_ok-width.width) (Err _) c.in_ok-width.ensures.told (after_answers sign.Bits Fixed (Lacks sign.Equal) xs c.in_ok-width.width.next c.in_ok-behind-2.behind (Err _) c.in_ok-behind-2.ensures c.in_err-fixed.ensures)))))

pub returns : goal.returns
returns c = let xs = lexemes c.args.source.now.text.now c.args.source.now.tokens.now in valued Fields (Lacks sign.Equal) xs c.args.at c.in_ok-fixed.fixed.next _ _ (ap (λ v. Whole (record { name = c.in_ok-name.name.value; width = v; fixed = c.in_ok-fixed.fixed.value })) (grind (arith, ints, to_z-of_z))) (field_answers xs c.args.at (joined (λ a b. (a, b)) (Whole c.in_ok-name.name.value) (joined (λ a b. (a, b)) (Whole c.in_ok-width.width.value) (Ok (sound c.in_ok-fixed.fixed)))) (followed Name ToWidth (Lacks sign.Equal) xs c.args.at (sound c.in_ok-name.name) (joined (λ a b. (a, b)) (Whole c.in_ok-width.width.value) (Ok (sound c.in_ok-fixed.fixed))) c.in_ok-name.ensures (after_answers sign.Colon (Both Number ToFixed) (Lacks sign.Equal) xs c.in_ok-name.name.next c.in_ok-behind.behind (joined (λ a b. (a, b)) (Whole c.in_ok-width.width.value) (Ok (sound c.in_ok-fixed.fixed))) c.in_ok-behind.ensures (followed Number ToFixed (Lacks sign.Equal) xs c.in_ok-behind.behind (sound c.in_ok-width.width) (Ok (sound c.in_ok-fixed.fixed)) c.in_ok-width.ensures.told (after_answers sign.Bits Fixed (Lacks sign.Equal) xs c.in_ok-width.width.next c.in_ok-behind-2.behind (Ok (sound c.in_ok-fixed.fixed)) c.in_ok-behind-2.ensures c.in_ok-fixed.ensures)))))
