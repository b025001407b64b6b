use Rattle.std.proofs.lemmas.Int.{ints, to_z-of_z}
use Rattle.std.proofs.Common.{Ok, Err, ap, arith}
use Rattle.tap_base.specs.declared.token.Sign.TheVariants as sign
use Rattle.tap_lexer.specs.Lexeme.{lexemes}
use Rattle.tap_lexer.specs.inner.Reading.{Free}
use Rattle.tap_parser.specs.Declarations.{IsConst}
use Rattle.tap_parser.proofs.TextBounds.{Name, Signed, first_stuck, followed}
use Rattle.tap_parser.proofs.TextDeclared.{ToSigned, const_answers, Consts}
use Rattle.tap_parser.proofs.TextParts.{after_answers, after_lacks, joined, sound, told_passed, valued}
use Rattle.tap_parser.specs.declared.kept.Kept.TheVariants.{Whole}
use Rattle.tap_parser.proofs.vars.read_const.Goals as goal

pub returns-in_err-name : goal.returns-in_err-name
returns-in_err-name c = let xs = lexemes c.args.source.now.text.now c.args.source.now.tokens.now in told_passed IsConst Free xs c.args.at _ _ c.from_residual.ensures.1 (const_answers xs c.args.at (Err _) (first_stuck Name ToSigned Free xs c.args.at _ c.in_err-name.ensures))

pub returns-in_err-behind : goal.returns-in_err-behind
returns-in_err-behind c = let xs = lexemes c.args.source.now.text.now c.args.source.now.tokens.now in told_passed IsConst Free xs c.args.at _ _ c.from_residual-in_err-behind.ensures.1 (const_answers xs c.args.at (Err _) (followed Name ToSigned Free xs c.args.at (sound c.in_ok-name.name) (Err _) c.in_ok-name.ensures (after_lacks sign.Equal Signed Free xs c.in_ok-name.name.next _ c.in_err-behind.ensures)))

pub returns-in_err-number : goal.returns-in_err-number
returns-in_err-number c = let xs = lexemes c.args.source.now.text.now c.args.source.now.tokens.now in told_passed IsConst Free xs c.args.at _ _ c.from_residual-in_err-number.ensures.1 (const_answers xs c.args.at (Err _) (followed Name ToSigned Free xs c.args.at (sound c.in_ok-name.name) (Err _) c.in_ok-name.ensures (after_answers sign.Equal Signed Free xs c.in_ok-name.name.next c.in_ok-behind.behind (Err _) c.in_ok-behind.ensures c.in_err-number.ensures)))

pub returns : goal.returns
returns c = let xs = lexemes c.args.source.now.text.now c.args.source.now.tokens.now in valued Consts Free xs c.args.at c.in_ok-number.number.next _ _ (ap (λ v. Whole (record { name = c.in_ok-name.name.value; value = v })) (grind (arith, ints, to_z-of_z))) (const_answers xs c.args.at (joined (λ a b. (a, b)) (Whole c.in_ok-name.name.value) (Ok (sound c.in_ok-number.number))) (followed Name ToSigned Free xs c.args.at (sound c.in_ok-name.name) (Ok (sound c.in_ok-number.number)) c.in_ok-name.ensures (after_answers sign.Equal Signed Free xs c.in_ok-name.name.next c.in_ok-behind.behind (Ok (sound c.in_ok-number.number)) c.in_ok-behind.ensures c.in_ok-number.ensures)))
