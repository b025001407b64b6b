use Rattle.std.proofs.Common.{Ok, Err}
use Rattle.tap_base.specs.declared.token.Sign.TheVariants as sign
use Rattle.tap_lexer.specs.Lexeme.{lexemes}
use Rattle.tap_lexer.specs.inner.Reading.{Lacks}
use Rattle.tap_parser.specs.Declarations.{IsBound, Optional}
use Rattle.tap_parser.proofs.TextDeclared.{absent_answers, present_answers}
use Rattle.tap_parser.proofs.TextParts.{sound, told_passed}
use Rattle.tap_parser.proofs.vars.read_initial.Goals as goal

pub returns-in_err-bound : goal.returns-in_err-bound
returns-in_err-bound c = let xs = lexemes c.args.source.now.text.now c.args.source.now.tokens.now in told_passed (Optional IsBound sign.Equal) (Lacks sign.Equal) xs c.args.at _ _ c.from_residual.ensures.1 (present_answers IsBound sign.Equal xs c.args.at (Err _) (c.shows.ensures.there c.if-shows.true) c.in_err-bound.ensures)

pub returns-then-shows : goal.returns-then-shows
returns-then-shows c = let xs = lexemes c.args.source.now.text.now c.args.source.now.tokens.now in present_answers IsBound sign.Equal xs c.args.at (Ok (sound c.in_ok-bound.bound)) (c.shows.ensures.there c.if-shows.true) c.in_ok-bound.ensures

pub returns : goal.returns
returns c = let xs = lexemes c.args.source.now.text.now c.args.source.now.tokens.now in absent_answers IsBound sign.Equal xs c.args.at (c.shows.ensures.lacks c.if-shows.false)
