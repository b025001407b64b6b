-- What the definitions of settings promise by themselves.
use Rattle.std.specs.Prelude.{◌≡◌, ◌↔◌, ℕ, List, [], Some, IsSome}
use Rattle.tap_base.specs.declared.system.Inputs.{Inputs}
use Rattle.tap_base.specs.declared.system.System.{System}
use Rattle.abstract_run.specs.Fits.{InputsFit}
use Rattle.tap_exec.specs.Semantics.{semantics_of}
use Rattle.tap_settings.specs.GivenInputs.{inputs_given}
use Rattle.tap_settings.specs.Offences.{settings_offences}
use Rattle.tap_settings.specs.SettingText.{Assignment, SpellsSetting}

-- A word is at most one setting.
abbrev pub OneSetting : Type 0
OneSetting = (word : List ℕ) (a b : Assignment) → SpellsSetting word a → SpellsSetting word b → a ≡ b

-- Settings have no offence exactly where they give inputs.
abbrev pub GivenOrRefused : Type 0
GivenOrRefused = (system : System) (settings : List Assignment) → (settings_offences system settings ≡ []) ↔ IsSome (inputs_given system settings)

-- The inputs that settings give are as many as the system declares, each within its range.
abbrev pub GivenInputsFit : Type 0
GivenInputsFit = (system : System) (settings : List Assignment) (inputs : Inputs) → inputs_given system settings ≡ Some inputs → InputsFit (semantics_of system) inputs
