use Rattle.std.proofs.Common.{Ok, Err}
use Rattle.tap_base.specs.declared.token.Sign.TheVariants as sign
use Rattle.tap_lexer.specs.Lexeme.{lexemes}
use Rattle.tap_lexer.specs.inner.Reading.{Free}
use Rattle.tap_parser.specs.Declarations.{IsScalar}
use Rattle.tap_parser.proofs.TextBounds.{Bounds, ToBound, between_answers, boolean_answers, first_stuck, followed}
use Rattle.tap_parser.proofs.TextParts.{after_answers, after_lacks, joined, sound, told_passed}
use Rattle.tap_parser.specs.declared.kept.Kept.TheVariants.{Whole}
use Rattle.tap_parser.proofs.bounds.read_scalar.Goals as goal

pub returns-then-shows : goal.returns-then-shows
returns-then-shows c = let xs = lexemes c.args.source.now.text.now c.args.source.now.tokens.now in boolean_answers xs c.args.at (c.shows.ensures.there c.if-shows.true)

pub returns-in_err-lo : goal.returns-in_err-lo
returns-in_err-lo c = let xs = lexemes c.args.source.now.text.now c.args.source.now.tokens.now in told_passed IsScalar Free xs c.args.at _ _ c.from_residual.ensures.1 (between_answers xs c.args.at (Err _) (c.shows.ensures.lacks c.if-shows.false) (first_stuck Bounds ToBound Free xs c.args.at _ c.in_err-lo.ensures))

pub returns-in_err-behind : goal.returns-in_err-behind
returns-in_err-behind c = let xs = lexemes c.args.source.now.text.now c.args.source.now.tokens.now in told_passed IsScalar Free xs c.args.at _ _ c.from_residual-in_err-behind.ensures.1 (between_answers xs c.args.at (Err _) (c.shows.ensures.lacks c.if-shows.false) (followed Bounds ToBound Free xs c.args.at (sound c.in_ok-lo.lo) (Err _) c.in_ok-lo.ensures (after_lacks sign.Span Bounds Free xs c.in_ok-lo.lo.next _ c.in_err-behind.ensures)))

pub returns-in_err-hi : goal.returns-in_err-hi
returns-in_err-hi c = let xs = lexemes c.args.source.now.text.now c.args.source.now.tokens.now in told_passed IsScalar Free xs c.args.at _ _ c.from_residual-in_err-hi.ensures.1 (between_answers xs c.args.at (Err _) (c.shows.ensures.lacks c.if-shows.false) (followed Bounds ToBound Free xs c.args.at (sound c.in_ok-lo.lo) (Err _) c.in_ok-lo.ensures (after_answers sign.Span Bounds Free xs c.in_ok-lo.lo.next c.in_ok-behind.behind (Err _) c.in_ok-behind.ensures c.in_err-hi.ensures)))

pub returns : goal.returns
returns c = let xs = lexemes c.args.source.now.text.now c.args.source.now.tokens.now in between_answers xs c.args.at (joined (λ a b. (a, b)) (Whole c.in_ok-lo.lo.value) (Ok (sound c.in_ok-hi.hi))) (c.shows.ensures.lacks c.if-shows.false) (followed Bounds ToBound Free xs c.args.at (sound c.in_ok-lo.lo) (Ok (sound c.in_ok-hi.hi)) c.in_ok-lo.ensures (after_answers sign.Span Bounds Free xs c.in_ok-lo.lo.next c.in_ok-behind.behind (Ok (sound c.in_ok-hi.hi)) c.in_ok-behind.ensures c.in_ok-hi.ensures))
