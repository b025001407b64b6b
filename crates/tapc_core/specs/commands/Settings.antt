-- What commands say of the text of a system together with settings.
use Rattle.std.specs.Prelude.{◌≡◌, ◌⊎◌, ℕ, List, Option, Some}
use Rattle.tap_base.specs.ListWords.{first}
use Rattle.tap_base.specs.declared.system.Inputs.{Inputs}
use Rattle.tap_base.specs.declared.system.System.{System}
use Rattle.tap_front.specs.Accepting.{Accepted}
use Rattle.tap_front.specs.Offences.{Offends}
use Rattle.tap_settings.specs.GivenInputs.{inputs_given}
use Rattle.tap_settings.specs.Lines.{refused_setting_line}
use Rattle.tap_settings.specs.Offences.{settings_offences}
use Rattle.tap_settings.specs.SettingText.{Assignment}
use Rattle.tap_settings.specs.declared.refusals.SettingRefusal.{SettingRefusal}
use Rattle.tapc_core.specs.Run.{HoldsSystem}
use Rattle.tapc_core.specs.commands.Text.{HasSystem, IsRefusal}

-- ---- what a text has with settings, where it is told

-- it is accepted as a system, for which the settings give inputs
pub record HasInputs (told : Option (List ℕ)) (settings : List Assignment) : Type 0 where
  pub text : HasSystem Accepted told
  pub inputs : Inputs
  pub given : inputs_given text.system settings ≡ Some inputs

-- it is accepted as a system, for which the settings have an offence
pub record HasMisset (told : Option (List ℕ)) (settings : List Assignment) : Type 0 where
  pub text : HasSystem Accepted told
  pub refusal : SettingRefusal
  pub is : first (settings_offences text.system settings) ≡ Some refusal

-- ---- what is written of it

-- The first offence that the settings have for the system which the file holds.
pub record Missets (told : Option (List ℕ)) (settings : List Assignment) (refusal : SettingRefusal) : Type 0 where
  pub system : System
  pub holds : HoldsSystem told system
  pub is : first (settings_offences system settings) ≡ Some refusal

-- The line of that offence.
pub record IsMisset (told : Option (List ℕ)) (settings : List Assignment) (bytes : List ℕ) : Type 0 where
  pub refusal : SettingRefusal
  pub offence : Missets told settings refusal
  pub is : bytes ≡ refused_setting_line refusal

-- The line of the first offence of the text, or of the settings.
abbrev pub IsUnset : Option (List ℕ) → List Assignment → List ℕ → Type 0
IsUnset told settings bytes = IsRefusal Offends told bytes ⊎ IsMisset told settings bytes
