use Rattle.std.proofs.lemmas.Int.{ints, to_z-of_z}
use Rattle.std.proofs.Common.{Ok, Err, ap, arith}
use Rattle.tap_lexer.specs.Lexeme.{lexemes}
use Rattle.tap_lexer.specs.inner.Reading.{Free}
use Rattle.tap_parser.specs.declared.kept.Kept.TheVariants.{Whole}
use Rattle.tap_parser.specs.Declarations.{IsSigned}
use Rattle.tap_parser.proofs.TextBounds.{minus_answers, plain_answers, Signed}
use Rattle.tap_parser.proofs.TextParts.{sound, told_passed, valued}
use Rattle.tap_parser.proofs.bounds.read_signed.Goals as goal

pub returns-in_err-number : goal.returns-in_err-number
returns-in_err-number c = let xs = lexemes c.args.source.now.text.now c.args.source.now.tokens.now in told_passed IsSigned Free xs c.args.at _ _ c.from_residual.ensures.1 (minus_answers xs c.args.at (Err _) (c.shows.ensures.there c.if-shows.true) c.in_err-number.ensures.told)

pub returns-then-shows : goal.returns-then-shows
returns-then-shows c = let xs = lexemes c.args.source.now.text.now c.args.source.now.tokens.now in valued Signed Free xs c.args.at c.in_ok-number.number.next _ _ (ap (λ v. Whole v) (grind (arith, ints, to_z-of_z, c.in_ok-number.ensures.natural))) (minus_answers xs c.args.at (Ok (sound c.in_ok-number.number)) (c.shows.ensures.there c.if-shows.true) c.in_ok-number.ensures.told)

pub returns-in_err-number-2 : goal.returns-in_err-number-2
returns-in_err-number-2 c = let xs = lexemes c.args.source.now.text.now c.args.source.now.tokens.now in told_passed IsSigned Free xs c.args.at _ _ c.from_residual-in_err-number-2.ensures.1 (plain_answers xs c.args.at (Err _) (c.shows.ensures.lacks c.if-shows.false) c.in_err-number-2.ensures.told)

pub returns : goal.returns
returns c = let xs = lexemes c.args.source.now.text.now c.args.source.now.tokens.now in valued Signed Free xs c.args.at c.in_ok-number-2.number.next _ _ (ap (λ v. Whole v) (grind (arith, ints, to_z-of_z))) (plain_answers xs c.args.at (Ok (sound c.in_ok-number-2.number)) (c.shows.ensures.lacks c.if-shows.false) c.in_ok-number-2.ensures.told)
