use Rattle.tapc_core.proofs.SettingLists.{among_on}
use Rattle.tapc_core.proofs.settings.settings_among.Goals as goal

pub loop-word-preserved : goal.loop-word-preserved
loop-word-preserved c = among_on c.args.words.now c.loop-word.word-index c.word-item.result c.loop-word-test.true c.word-item.is _ _ c.in_ok-push_setting.ensures c.loop-word.invariant
