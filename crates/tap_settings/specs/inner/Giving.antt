-- What is answered where settings are put into a table.
use Rattle.std.specs.Prelude.{◌≡◌, List, [], ◌∷◌, ◌++◌, Result, Ok, Err}
use Rattle.tap_base.specs.declared.system.Process.{Process}
use Rattle.tap_settings.specs.declared.refusals.SettingsFault.{SettingsFault}
use Rattle.tap_base.specs.ListWords.{behind}
use Rattle.tap_settings.specs.Offences.{setting_offences}
use Rattle.tap_settings.specs.Refusals.{Faults}
use Rattle.tap_settings.specs.SettingText.{Assignment}
use Rattle.tap_settings.specs.inner.Table.{Holds, Rows}

-- one setting behind others: the table holds it too, or this is its first offence
abbrev pub Gives : {A : Type 0} → List Process → List Assignment → Assignment → Rows → Result A SettingsFault → Type 0
Gives processes before a rows (Ok done) = (setting_offences processes before a ≡ []) × Holds processes (before ++ a ∷ []) rows
Gives processes before a rows (Err e) = Faults (setting_offences processes before a) e

-- all settings: the table holds them, or this is the first offence of theirs
abbrev pub GivesAll : {A : Type 0} → List Process → List Assignment → Rows → Result A SettingsFault → Type 0
GivesAll processes settings rows (Ok done) = (behind (setting_offences processes) [] settings ≡ []) × Holds processes settings rows
GivesAll processes settings rows (Err e) = Faults (behind (setting_offences processes) [] settings) e
