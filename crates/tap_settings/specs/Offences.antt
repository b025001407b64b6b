-- The offences of settings, in their order.
use Rattle.std.specs.Prelude.{ℕ, ℤ, not, List, [], ◌++◌, Option, Some, None, is_some, is_none}
use Rattle.tap_base.specs.declared.system.Process.{Process}
use Rattle.tap_base.specs.declared.system.System.{System}
use Rattle.tap_base.specs.declared.system.Var.{Var}
use Rattle.tap_base.specs.Ranges.{is_within}
use Rattle.tap_settings.specs.declared.refusals.SettingCode.TheVariants as code
use Rattle.tap_settings.specs.declared.refusals.SettingRefusal.{SettingRefusal}
use Rattle.tap_settings.specs.declared.spots.Spot.{Spot}
use Rattle.tap_base.specs.ListWords.{behind, by_number}
use Rattle.tap_settings.specs.Refusals.{offence, where_}
use Rattle.tap_settings.specs.SettingText.{Assignment}
use Rattle.tap_settings.specs.Spots.{spot_for}
use Rattle.tap_settings.specs.Values.{first_at}

-- ---- what is given

-- The offences of an assignment, by those before it and by the input that it is for: I1 where it is for none; else I2 where
-- one before it gives that input a value, then I4 where its value is outside of the input's range.
abbrev pub spot_offences : List Process → List Assignment → Assignment → Option Spot → List SettingRefusal
spot_offences processes before a None = offence code.I1 a.process a.input
spot_offences processes before a (Some spot) =
    where_ (is_some (first_at processes before spot.process spot.input)) code.I2 a.process a.input
    ++ where_ (not (is_within spot.range a.value)) code.I4 a.process a.input

-- the offences of an assignment, by those before it
abbrev pub setting_offences : List Process → List Assignment → Assignment → List SettingRefusal
setting_offences processes before a = spot_offences processes before a (spot_for processes a)

-- ---- what is missing

-- I3 of each input of a process that has no value, in order of declaration
abbrev pub missing_in : List ℕ → (ℕ → Option ℤ) → List Var → List SettingRefusal
missing_in process value inputs = by_number 0 (λ j v. where_ (is_none (value j)) code.I3 process v.name) inputs

-- the same of the inputs of all processes, process by process
abbrev pub missing_among : (ℕ → ℕ → Option ℤ) → List Process → List SettingRefusal
missing_among value processes = by_number 0 (λ i p. missing_in p.name (value i) p.inputs) processes

-- ---- all

-- those of the settings in their order, then those of what no setting gives
abbrev pub settings_offences : System → List Assignment → List SettingRefusal
settings_offences system settings =
    behind (setting_offences system.processes) [] settings ++ missing_among (first_at system.processes settings) system.processes
