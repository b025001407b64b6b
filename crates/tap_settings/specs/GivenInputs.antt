-- The inputs that settings give.
use Rattle.std.specs.Prelude.{ℕ, ℤ, Bool, List, Option, Some, is_some}
use Rattle.std.specs.List.{list_all}
use Rattle.tap_base.specs.declared.place.Range.{Range}
use Rattle.tap_base.specs.declared.system.Inputs.{Inputs}
use Rattle.tap_base.specs.declared.system.Process.{Process}
use Rattle.tap_base.specs.declared.system.System.{System}
use Rattle.tap_base.specs.Option.{◌>>=◌, provided}
use Rattle.tap_base.specs.Ranges.{is_within}
use Rattle.tap_base.specs.ListWords.{each_by_number, only}
use Rattle.tap_settings.specs.Values.{values_at}
use Rattle.tap_settings.specs.SettingText.{Assignment}
use Rattle.tap_settings.specs.Spots.{spot_for}

-- whether an assignment is for an input of these processes
abbrev pub is_declared : List Process → Assignment → Bool
is_declared processes a = is_some (spot_for processes a)

-- the one value that is given, where there is exactly one and it is in the range
abbrev pub value_given : Range → List ℤ → Option ℤ
value_given range values = do
  x ← only values
  provided (is_within range x) x

-- the values of the inputs of the process numbered i, where each has one
abbrev pub values_given : List Process → List Assignment → ℕ → Process → Option (List ℤ)
values_given processes settings i p = each_by_number 0 (λ j v. value_given v.range (values_at processes i j settings)) p.inputs

-- The inputs that settings give, one list for each process. There are none where a setting is for no input of the system,
-- or where an input has not exactly one value or one outside of its range.
abbrev pub inputs_given : System → List Assignment → Option Inputs
inputs_given system settings = do
  known ← provided (list_all (is_declared system.processes) settings) settings
  values ← each_by_number 0 (values_given system.processes known) system.processes
  Some (record { of = values })
