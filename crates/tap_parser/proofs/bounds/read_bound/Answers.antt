use Rattle.std.proofs.lemmas.Int.{ints, to_z-of_z}
use Rattle.std.proofs.Common.{Ok, Err, ap, arith}
use Rattle.tap_base.specs.declared.ast.Bound.TheVariants as bound
use Rattle.tap_lexer.specs.Lexeme.{lexemes}
use Rattle.tap_lexer.specs.inner.Reading.{Free}
use Rattle.tap_parser.specs.declared.kept.Kept.TheVariants.{Whole}
use Rattle.tap_parser.specs.Declarations.{IsBound}
use Rattle.tap_parser.proofs.TextBounds.{counted_answers, named_answers, Bounds}
use Rattle.tap_parser.proofs.TextParts.{sound, told_passed, valued}
use Rattle.tap_parser.proofs.bounds.read_bound.Goals as goal

pub returns-in_err-name : goal.returns-in_err-name
returns-in_err-name c = let xs = lexemes c.args.source.now.text.now c.args.source.now.tokens.now in told_passed IsBound Free xs c.args.at _ _ c.from_residual.ensures.1 (named_answers xs c.args.at (Err _) (c.shows.ensures.there c.if-shows.true) c.in_err-name.ensures)

pub returns-then-shows : goal.returns-then-shows
returns-then-shows c = let xs = lexemes c.args.source.now.text.now c.args.source.now.tokens.now in named_answers xs c.args.at (Ok (sound c.in_ok-name.name)) (c.shows.ensures.there c.if-shows.true) c.in_ok-name.ensures

pub returns-in_err-number : goal.returns-in_err-number
returns-in_err-number c = let xs = lexemes c.args.source.now.text.now c.args.source.now.tokens.now in told_passed IsBound Free xs c.args.at _ _ c.from_residual-in_err-number.ensures.1 (counted_answers xs c.args.at (Err _) (c.shows.ensures.lacks c.if-shows.false) c.in_err-number.ensures)

pub returns : goal.returns
returns c = let xs = lexemes c.args.source.now.text.now c.args.source.now.tokens.now in valued Bounds Free xs c.args.at c.in_ok-number.number.next _ _ (ap (λ v. Whole (bound.Number v)) (grind (arith, ints, to_z-of_z))) (counted_answers xs c.args.at (Ok (sound c.in_ok-number.number)) (c.shows.ensures.lacks c.if-shows.false) c.in_ok-number.ensures)
