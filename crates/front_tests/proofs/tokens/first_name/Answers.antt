use Rattle.std.proofs.Common.{List, sym, subst}
use Rattle.tap_base.specs.declared.token.Token.{Token}
use Rattle.tap_lexer.specs.Spans.{AreTexts}
use Rattle.front_tests.proofs.tokens.first_name.Goals as goal

pub take-requires : goal.take-requires
take-requires g c =
    let P : List Token → Type 0 = λ z. AreTexts c.args.text.now z in
    subst P (sym c.as_slice.ensures) c.in-Ok.ensures.texts
