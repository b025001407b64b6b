use Rattle.std.proofs.Common.{◌∙◌}
use Rattle.tapc_core.proofs.SettingLists.{found_spelled}
use Rattle.tapc_core.proofs.settings.is_input.Goals as goal

pub returns : goal.returns
returns c = c.is_some.ensures ∙ found_spelled c.args.word.now c.setting_of.result c.setting_of.ensures
