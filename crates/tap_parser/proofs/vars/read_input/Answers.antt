use Rattle.std.proofs.Common.{Ok, Err}
use Rattle.tap_base.specs.declared.token.Sign.TheVariants as sign
use Rattle.tap_lexer.specs.Lexeme.{lexemes}
use Rattle.tap_lexer.specs.inner.Reading.{Free}
use Rattle.tap_parser.specs.Declarations.{IsInput}
use Rattle.tap_parser.proofs.TextBounds.{Name, Scalars, first_stuck, followed}
use Rattle.tap_parser.proofs.TextDeclared.{ToScalar, input_answers}
use Rattle.tap_parser.proofs.TextParts.{after_answers, after_lacks, joined, sound, told_passed}
use Rattle.tap_parser.specs.declared.kept.Kept.TheVariants.{Whole}
use Rattle.tap_parser.proofs.vars.read_input.Goals as goal

pub returns-in_err-name : goal.returns-in_err-name
returns-in_err-name c = let xs = lexemes c.args.source.now.text.now c.args.source.now.tokens.now in told_passed IsInput Free xs c.args.at _ _ c.from_residual.ensures.1 (input_answers xs c.args.at (Err _) (first_stuck Name ToScalar Free xs c.args.at _ c.in_err-name.ensures))

pub returns-in_err-behind : goal.returns-in_err-behind
returns-in_err-behind c = let xs = lexemes c.args.source.now.text.now c.args.source.now.tokens.now in told_passed IsInput Free xs c.args.at _ _ c.from_residual-in_err-behind.ensures.1 (input_answers xs c.args.at (Err _) (followed Name ToScalar Free xs c.args.at (sound c.in_ok-name.name) (Err _) c.in_ok-name.ensures (after_lacks sign.Colon Scalars Free xs c.in_ok-name.name.next _ c.in_err-behind.ensures)))

pub returns-in_err-scalar : goal.returns-in_err-scalar
returns-in_err-scalar c = let xs = lexemes c.args.source.now.text.now c.args.source.now.tokens.now in told_passed IsInput Free xs c.args.at _ _ c.from_residual-in_err-scalar.ensures.1 (input_answers xs c.args.at (Err _) (followed Name ToScalar Free xs c.args.at (sound c.in_ok-name.name) (Err _) c.in_ok-name.ensures (after_answers sign.Colon Scalars Free xs c.in_ok-name.name.next c.in_ok-behind.behind (Err _) c.in_ok-behind.ensures c.in_err-scalar.ensures)))

pub returns : goal.returns
returns c = let xs = lexemes c.args.source.now.text.now c.args.source.now.tokens.now in input_answers xs c.args.at (joined (λ a b. (a, b)) (Whole c.in_ok-name.name.value) (Ok (sound c.in_ok-scalar.scalar))) (followed Name ToScalar Free xs c.args.at (sound c.in_ok-name.name) (Ok (sound c.in_ok-scalar.scalar)) c.in_ok-name.ensures (after_answers sign.Colon Scalars Free xs c.in_ok-name.name.next c.in_ok-behind.behind (Ok (sound c.in_ok-scalar.scalar)) c.in_ok-behind.ensures c.in_ok-scalar.ensures))
