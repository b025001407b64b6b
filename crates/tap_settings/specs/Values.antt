-- The values that settings give each input.
use Rattle.std.specs.Prelude.{ℕ, ℤ, Bool, false, ◌&&◌, ◌==◌, if◌then◌else◌, List, [], ◌∷◌, flat_map, Option, Some, None}
use Rattle.tap_base.specs.declared.system.Process.{Process}
use Rattle.tap_settings.specs.declared.spots.Spot.{Spot}
use Rattle.tap_base.specs.ListWords.{first}
use Rattle.tap_settings.specs.SettingText.{Assignment}
use Rattle.tap_settings.specs.Spots.{spot_for}

-- whether this is the input numbered j of the process numbered i
abbrev pub is_at : ℕ → ℕ → Option Spot → Bool
is_at i j None = false
is_at i j (Some spot) = (spot.process == i) && (spot.input == j)

-- the value of an assignment, where it is for that input
abbrev pub value_at : List Process → ℕ → ℕ → Assignment → List ℤ
value_at processes i j a = if is_at i j (spot_for processes a) then a.value ∷ [] else []

-- the values that assignments give that input, in their order
abbrev pub values_at : List Process → ℕ → ℕ → List Assignment → List ℤ
values_at processes i j settings = flat_map (value_at processes i j) settings

-- the first value that assignments give an input
abbrev pub first_at : List Process → List Assignment → ℕ → ℕ → Option ℤ
first_at processes settings i j = first (values_at processes i j settings)
