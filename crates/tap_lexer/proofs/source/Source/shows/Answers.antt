use Rattle.std.proofs.Common.{rules, ◌≡◌, sym, ◌∙◌}
use denote.Enum.Bare.{same_true}
use Rattle.tap_base.specs.contracts.token.Sign.{the_type}
use Rattle.tap_lexer.specs.Lexeme.{lexeme}
use Rattle.tap_lexer.proofs.source.Source.shows.Goals as goal

pub sign-requires : goal.sign-requires
sign-requires c = c.requires c.args.at c.in-Some.token (sym c.in-Some.ensures.value)

pub returns-in-Some-clause-there : goal.returns-in-Some-clause-there
returns-in-Some-clause-there c = λ e.
    let h : c.sign.result ≡ c.args.sign = same_true the_type (search rules) _ _ (sym c.eq.ensures ∙ e) in
    record { x = lexeme c.args.self.now.text.now c.in-Some.token; stands = c.in-Some.ensures.seen; is = sym c.sign.ensures ∙ h }
