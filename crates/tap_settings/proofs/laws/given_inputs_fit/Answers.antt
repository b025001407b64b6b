use Rattle.tap_settings.proofs.Fit.{given_fit}
use Rattle.tap_settings.proofs.laws.given_inputs_fit.Goals as goal

pub returns : goal.returns
returns c = given_fit
