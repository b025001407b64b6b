use Rattle.tap_settings.proofs.Given.{given_or_refused}
use Rattle.tap_settings.proofs.laws.given_or_refused.Goals as goal

pub returns : goal.returns
returns c = given_or_refused
