-- How the refusal of a setting is printed.
use Rattle.std.specs.Prelude.{ℕ, List, ◌++◌, codes}
use Rattle.tap_settings.specs.declared.refusals.SettingCode.{SettingCode}
use Rattle.tap_settings.specs.declared.refusals.SettingCode.TheVariants as code
use Rattle.tap_settings.specs.declared.refusals.SettingRefusal.{SettingRefusal}

-- a code as it is printed
abbrev pub code_word : SettingCode → List ℕ
code_word code.I1 = codes "I1"
code_word code.I2 = codes "I2"
code_word code.I3 = codes "I3"
code_word code.I4 = codes "I4"

-- the line that is written of a refused setting
abbrev pub refused_setting_line : SettingRefusal → List ℕ
refused_setting_line r = codes "refused " ++ code_word r.code ++ codes " " ++ r.process ++ codes "." ++ r.input ++ codes "\n"
