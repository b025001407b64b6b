use Rattle.std.proofs.lemmas.Int.{ints, to_z-of_z}
use Rattle.std.proofs.Common.{Ok, Err, ◌+◌, ap, arith}
use Rattle.tap_base.specs.declared.ast.AstType.TheVariants as type_of
use Rattle.tap_base.specs.declared.token.Sign.TheVariants as sign
use Rattle.tap_lexer.specs.Lexeme.{lexemes}
use Rattle.tap_lexer.specs.inner.Reading.{Free}
use Rattle.tap_parser.specs.Declarations.{IsType}
use Rattle.tap_parser.proofs.TextBounds.{Number, OfScalar, Scalars, array_answers, first_stuck, followed, single_answers, Types}
use Rattle.tap_parser.proofs.TextParts.{after_answers, after_lacks, joined, sound, told_passed, valued}
use Rattle.tap_parser.specs.declared.kept.Kept.TheVariants.{Whole}
use Rattle.tap_parser.proofs.bounds.read_type.Goals as goal

pub returns-in_err-length : goal.returns-in_err-length
returns-in_err-length c = let xs = lexemes c.args.source.now.text.now c.args.source.now.tokens.now in told_passed IsType Free xs c.args.at _ _ c.from_residual.ensures.1 (array_answers xs c.args.at (Err _) (c.shows.ensures.there c.if-shows.true) (first_stuck Number OfScalar Free xs (c.args.at + 1) _ c.in_err-length.ensures.told))

pub returns-in_err-behind : goal.returns-in_err-behind
returns-in_err-behind c = let xs = lexemes c.args.source.now.text.now c.args.source.now.tokens.now in told_passed IsType Free xs c.args.at _ _ c.from_residual-in_err-behind.ensures.1 (array_answers xs c.args.at (Err _) (c.shows.ensures.there c.if-shows.true) (followed Number OfScalar Free xs (c.args.at + 1) (sound c.in_ok-length.length) (Err _) c.in_ok-length.ensures.told (after_lacks sign.Of Scalars Free xs c.in_ok-length.length.next _ c.in_err-behind.ensures)))

pub returns-in_err-of : goal.returns-in_err-of
returns-in_err-of c = let xs = lexemes c.args.source.now.text.now c.args.source.now.tokens.now in told_passed IsType Free xs c.args.at _ _ c.from_residual-in_err-of.ensures.1 (array_answers xs c.args.at (Err _) (c.shows.ensures.there c.if-shows.true) (followed Number OfScalar Free xs (c.args.at + 1) (sound c.in_ok-length.length) (Err _) c.in_ok-length.ensures.told (after_answers sign.Of Scalars Free xs c.in_ok-length.length.next c.in_ok-behind.behind (Err _) c.in_ok-behind.ensures c.in_err-of.ensures)))

pub returns-then-shows : goal.returns-then-shows
returns-then-shows c = let xs = lexemes c.args.source.now.text.now c.args.source.now.tokens.now in valued Types Free xs c.args.at c.in_ok-of.of.next _ _ (ap (λ v. Whole (type_of.Array v c.in_ok-of.of.value)) (grind (arith, ints, to_z-of_z))) (array_answers xs c.args.at (joined (λ a b. (a, b)) (Whole c.in_ok-length.length.value) (Ok (sound c.in_ok-of.of))) (c.shows.ensures.there c.if-shows.true) (followed Number OfScalar Free xs (c.args.at + 1) (sound c.in_ok-length.length) (Ok (sound c.in_ok-of.of)) c.in_ok-length.ensures.told (after_answers sign.Of Scalars Free xs c.in_ok-length.length.next c.in_ok-behind.behind (Ok (sound c.in_ok-of.of)) c.in_ok-behind.ensures c.in_ok-of.ensures)))

pub returns-in_err-scalar : goal.returns-in_err-scalar
returns-in_err-scalar c = let xs = lexemes c.args.source.now.text.now c.args.source.now.tokens.now in told_passed IsType Free xs c.args.at _ _ c.from_residual-in_err-scalar.ensures.1 (single_answers xs c.args.at (Err _) (c.shows.ensures.lacks c.if-shows.false) c.in_err-scalar.ensures)

pub returns : goal.returns
returns c = let xs = lexemes c.args.source.now.text.now c.args.source.now.tokens.now in single_answers xs c.args.at (Ok (sound c.in_ok-scalar.scalar)) (c.shows.ensures.lacks c.if-shows.false) c.in_ok-scalar.ensures
