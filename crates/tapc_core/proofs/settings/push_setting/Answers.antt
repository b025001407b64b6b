use Rattle.std.proofs.Common.{subst}
use Rattle.tap_settings.specs.SettingText.{IsNoSetting, SpellsSetting, assignment_of}
use Rattle.tapc_core.proofs.SettingLists.{none_listed, on_ok, pushed_setting}
use Rattle.tapc_core.proofs.settings.push_setting.Goals as goal

pub returns-in-Some : goal.returns-in-Some
returns-in-Some c =
    let spells = subst (λ w. SpellsSetting w (assignment_of c.in-Some.setting)) c.as_str.ensures c.in-Some.ensures in
    on_ok c.push.result (λ e. pushed_setting c.args.word.now c.in-Some.setting c.args.settings.now c.push.new.self spells e) c.push.ensures.ok

pub returns-in-None : goal.returns-in-None
returns-in-None c = none_listed c.args.word.now _ (subst IsNoSetting c.as_str.ensures c.in-None.ensures)
