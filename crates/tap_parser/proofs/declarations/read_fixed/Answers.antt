use Rattle.std.proofs.lemmas.Int.{ints, to_z-of_z}
use Rattle.std.proofs.Common.{Ok, Err, ◌+◌, ap, Some, arith}
use Rattle.tap_base.specs.declared.token.Sign.TheVariants as sign
use Rattle.tap_lexer.specs.Lexeme.{lexemes}
use Rattle.tap_lexer.specs.inner.Reading.{Lacks}
use Rattle.tap_parser.specs.declared.kept.Kept.TheVariants.{Whole}
use Rattle.tap_parser.specs.Declarations.{IsNumber, Optional}
use Rattle.tap_parser.proofs.TextDeclared.{absent_answers, number_answers, present_answers, Fixed}
use Rattle.tap_parser.proofs.TextParts.{renamed, sound, told_passed, valued}
use Rattle.tap_parser.proofs.declarations.read_fixed.Goals as goal

pub returns-in_err-number : goal.returns-in_err-number
returns-in_err-number c = let xs = lexemes c.args.source.now.text.now c.args.source.now.tokens.now in told_passed (Optional IsNumber sign.Equal) (Lacks sign.Equal) xs c.args.at _ _ c.from_residual.ensures.1 (present_answers IsNumber sign.Equal xs c.args.at (Err _) (c.shows.ensures.there c.if-shows.true) (number_answers xs (c.args.at + 1) (Err _) c.in_err-number.ensures.told))

pub returns-then-shows : goal.returns-then-shows
returns-then-shows c = let xs = lexemes c.args.source.now.text.now c.args.source.now.tokens.now in valued Fixed (Lacks sign.Equal) xs c.args.at c.in_ok-number.number.next _ _ (ap (λ v. Whole (Some v)) (grind (arith, ints, to_z-of_z))) (present_answers IsNumber sign.Equal xs c.args.at (renamed (λ v. v.value) (Ok (sound c.in_ok-number.number))) (c.shows.ensures.there c.if-shows.true) (number_answers xs (c.args.at + 1) (Ok (sound c.in_ok-number.number)) c.in_ok-number.ensures.told))

pub returns : goal.returns
returns c = let xs = lexemes c.args.source.now.text.now c.args.source.now.tokens.now in absent_answers IsNumber sign.Equal xs c.args.at (c.shows.ensures.lacks c.if-shows.false)
