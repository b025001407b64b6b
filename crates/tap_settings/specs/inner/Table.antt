-- A table with a place for each input of each process.
use Rattle.std.specs.Prelude.{◌≡◌, ℕ, ℤ, List, length, map, slice_get, Option}
use Rattle.tap_base.specs.declared.system.Process.{Process}
use Rattle.tap_base.specs.Option.{◌>>=◌}
use Rattle.tap_base.specs.ListWords.{each_by_number}
use Rattle.tap_settings.specs.Values.{first_at}
use Rattle.tap_settings.specs.SettingText.{Assignment}

abbrev pub Rows : Type 0
Rows = List (List (Option ℤ))

-- one place for each input of each process
abbrev pub HasPlaces : List Process → Rows → Type 0
HasPlaces processes rows = map length rows ≡ map (λ p. length p.inputs) processes

-- the value at a place, where there is a place and a value
abbrev pub held_at : Rows → ℕ → ℕ → Option ℤ
held_at rows i j = do
  row ← slice_get rows i
  value ← slice_get row j
  value

-- The table holds the first value that these settings give each input.
abbrev pub Holds : List Process → List Assignment → Rows → Type 0
Holds processes settings rows = (i j : ℕ) → held_at rows i j ≡ first_at processes settings i j

-- the values of the inputs of all processes, where each has one
abbrev pub values_among : (ℕ → ℕ → Option ℤ) → List Process → Option (List (List ℤ))
values_among value processes = each_by_number 0 (λ i p. each_by_number 0 (λ j v. value i j) p.inputs) processes
