use Rattle.std.proofs.Common.{◌≡◌, ap, subst, sym, ◌∙◌, IfSome}
use Rattle.std.specs.Fmt.{signed_decimal}
use Rattle.std.specs.Int.{w64}
use Rattle.std.specs.Result.{result_ok}
use Rattle.std.proofs.lemmas.Fmt.{parse-signed_decimal}
use Rattle.tap_settings.proofs.IntegerTexts.{spelled}
use Rattle.tap_settings.proofs.integers.parsed.Goals as goal

pub returns-clause-number : goal.returns-clause-number
returns-clause-number c = subst (λ o. IfSome o (λ z. c.args.text.now ≡ signed_decimal z)) (sym c.ok.ensures.value) (spelled _ c.args.text.now _ c.requires c.parse.ensures.value.0)

pub returns-clause-each : goal.returns-clause-each
returns-clause-each c z h e = c.ok.ensures.value ∙ ap result_ok (parse-signed_decimal w64 z c.args.text.now _ h h.sfits e c.parse.ensures.value.0)
