-- Which input of a system a name is that of.
use Rattle.std.specs.Prelude.{ℕ, List, Option, Some, slice_get, bytes_eq}
use Rattle.std.specs.List.{position}
use Rattle.tap_base.specs.declared.system.Process.{Process}
use Rattle.tap_base.specs.Option.{◌>>=◌}
use Rattle.tap_settings.specs.SettingText.{Assignment}
use Rattle.tap_settings.specs.declared.spots.Spot.{Spot}

-- the first input of the name, in a process of this number
abbrev pub spot_in : ℕ → Process → List ℕ → Option Spot
spot_in i process name = do
  j ← position (λ v. bytes_eq v.name name) process.inputs
  v ← slice_get process.inputs j
  Some (record { process = i; input = j; range = v.range })

-- The first input of a name, of the first process of a name; none where there is no such process, or that has no such
-- input. So a second process of one name has no input that can be named, nor has a second input of one name.
abbrev pub spot_of : List Process → List ℕ → List ℕ → Option Spot
spot_of processes process input = do
  i ← position (λ p. bytes_eq p.name process) processes
  p ← slice_get processes i
  spot_in i p input

-- the input that an assignment is for
abbrev pub spot_for : List Process → Assignment → Option Spot
spot_for processes a = spot_of processes a.process a.input
