use Rattle.std.proofs.Common.{◌≡◌, ◌++◌, drop}
use Rattle.tap_settings.specs.SettingText.{assignments_of}
use Rattle.tapc_core.specs.SettingWords.{settings_among}
use Rattle.tapc_core.proofs.settings.settings_among.Given as goal

-- the settings so far, and then those among the words that are left, are all
abbrev pub invariant-loop-word : goal.invariant-loop-word
invariant-loop-word l = assignments_of l.settings ++ settings_among (drop l.word-index l.words) ≡ settings_among l.words
