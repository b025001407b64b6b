use Rattle.tapc_core.proofs.SettingWords.{setting_is_spelled}
use Rattle.tapc_core.proofs.laws.setting_is_spelled.Goals as goal

pub returns : goal.returns
returns c = setting_is_spelled
