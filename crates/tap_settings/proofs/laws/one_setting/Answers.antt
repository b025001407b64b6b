use Rattle.tap_settings.proofs.Texts.{one_setting}
use Rattle.tap_settings.proofs.laws.one_setting.Goals as goal

pub returns : goal.returns
returns c = one_setting
