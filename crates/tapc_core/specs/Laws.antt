-- What the definitions of words promise by themselves.
use Rattle.std.specs.Prelude.{◌≡◌, ◌↔◌, ℕ, List, Some}
use Rattle.tap_settings.specs.SettingText.{Assignment, SpellsSetting}
use Rattle.tapc_core.specs.SettingWords.{setting_in}

-- A word is a setting of a command exactly where it spells that setting.
abbrev pub SettingIsSpelled : Type 0
SettingIsSpelled = (word : List ℕ) (a : Assignment) → (setting_in word ≡ Some a) ↔ SpellsSetting word a
