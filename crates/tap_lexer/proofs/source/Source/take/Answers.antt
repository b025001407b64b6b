use Rattle.std.proofs.Common.{rules, ◌≡◌, sym, ◌∙◌}
use denote.Enum.Bare.{same_true}
use Rattle.tap_base.specs.contracts.token.Sign.{the_type}
use Rattle.tap_lexer.proofs.source.Source.take.Goals as goal

pub sign-requires : goal.sign-requires
sign-requires c = c.requires c.args.at c.in_ok-token.token (sym c.in_ok-token.ensures.value)

pub returns-then-eq-clause-text : goal.returns-then-eq-clause-text
returns-then-eq-clause-text c = c.requires c.args.at c.in_ok-token.token (sym c.in_ok-token.ensures.value)

pub returns-then-eq-clause-taken : goal.returns-then-eq-clause-taken
returns-then-eq-clause-taken c =
    let h : c.sign.result ≡ c.args.sign = same_true the_type (search rules) _ _ (sym c.eq.ensures ∙ c.if-eq.true) in
    record { stands = c.in_ok-token.ensures.seen; is = sym c.sign.ensures ∙ h }
