use Rattle.std.proofs.Common.{Ok, Err}
use Rattle.tap_base.specs.declared.token.Sign.TheVariants as sign
use Rattle.tap_lexer.specs.Lexeme.{lexemes}
use Rattle.tap_lexer.specs.inner.Reading.{Lacks}
use Rattle.tap_parser.specs.Declarations.{IsVar}
use Rattle.tap_parser.proofs.TextBounds.{Name, Types, first_stuck, followed}
use Rattle.tap_parser.proofs.TextDeclared.{Initial, ToType, var_answers}
use Rattle.tap_parser.proofs.TextParts.{after_answers, after_lacks, joined, sound, told_passed, Both}
use Rattle.tap_parser.specs.declared.kept.Kept.TheVariants.{Whole}
use Rattle.tap_parser.proofs.vars.read_var.Goals as goal

pub returns-in_err-name : goal.returns-in_err-name
returns-in_err-name c = let xs = lexemes c.args.source.now.text.now c.args.source.now.tokens.now in told_passed IsVar (Lacks sign.Equal) xs c.args.at _ _ c.from_residual.ensures.1 (var_answers xs c.args.at (Err _) (first_stuck Name ToType (Lacks sign.Equal) xs c.args.at _ c.in_err-name.ensures))

pub returns-in_err-behind : goal.returns-in_err-behind
returns-in_err-behind c = let xs = lexemes c.args.source.now.text.now c.args.source.now.tokens.now in told_passed IsVar (Lacks sign.Equal) xs c.args.at _ _ c.from_residual-in_err-behind.ensures.1 (var_answers xs c.args.at (Err _) (followed Name ToType (Lacks sign.Equal) xs c.args.at (sound c.in_ok-name.name) (Err _) c.in_ok-name.ensures (after_lacks sign.Colon (Both Types Initial) (Lacks sign.Equal) xs c.in_ok-name.name.next _ c.in_err-behind.ensures)))

pub returns-in_err-kind : goal.returns-in_err-kind
returns-in_err-kind c = let xs = lexemes c.args.source.now.text.now c.args.source.now.tokens.now in told_passed IsVar (Lacks sign.Equal) xs c.args.at _ _ c.from_residual-in_err-kind.ensures.1 (var_answers xs c.args.at (Err _) (followed Name ToType (Lacks sign.Equal) xs c.args.at (sound c.in_ok-name.name) (Err _) c.in_ok-name.ensures (after_answers sign.Colon (Both Types Initial) (Lacks sign.Equal) xs c.in_ok-name.name.next c.in_ok-behind.behind (Err _) c.in_ok-behind.ensures (first_stuck Types Initial (Lacks sign.Equal) xs c.in_ok-behind.behind _ c.in_err-kind.ensures))))

pub returns-in_err-initial : goal.returns-in_err-initial
returns-in_err-initial c = let xs = lexemes c.args.source.now.text.now c.args.source.now.tokens.now in told_passed IsVar (Lacks sign.Equal) xs c.args.at _ _ c.from_residual-in_err-initial.ensures.1 (var_answers xs c.args.at (Err _) (followed Name ToType (Lacks sign.Equal) xs c.args.at (sound c.in_ok-name.name) (Err _) c.in_ok-name.ensures (after_answers sign.Colon (Both Types Initial) (Lacks sign.Equal) xs c.in_ok-name.name.next c.in_ok-behind.behind (Err _) c.in_ok-behind.ensures (followed Types Initial (Lacks sign.Equal) xs c.in_ok-behind.behind (sound c.in_ok-kind.kind) (Err _) c.in_ok-kind.ensures c.in_err-initial.ensures))))

pub returns : goal.returns
returns c = let xs = lexemes c.args.source.now.text.now c.args.source.now.tokens.now in var_answers xs c.args.at (joined (λ a b. (a, b)) (Whole c.in_ok-name.name.value) (joined (λ a b. (a, b)) (Whole c.in_ok-kind.kind.value) (Ok (sound c.in_ok-initial.initial)))) (followed Name ToType (Lacks sign.Equal) xs c.args.at (sound c.in_ok-name.name) (joined (λ a b. (a, b)) (Whole c.in_ok-kind.kind.value) (Ok (sound c.in_ok-initial.initial))) c.in_ok-name.ensures (after_answers sign.Colon (Both Types Initial) (Lacks sign.Equal) xs c.in_ok-name.name.next c.in_ok-behind.behind (joined (λ a b. (a, b)) (Whole c.in_ok-kind.kind.value) (Ok (sound c.in_ok-initial.initial))) c.in_ok-behind.ensures (followed Types Initial (Lacks sign.Equal) xs c.in_ok-behind.behind (sound c.in_ok-kind.kind) (Ok (sound c.in_ok-initial.initial)) c.in_ok-kind.ensures c.in_ok-initial.ensures)))
