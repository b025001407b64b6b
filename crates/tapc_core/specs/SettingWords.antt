-- The settings that words are.
use Rattle.std.specs.Prelude.{ℕ, ℤ, ◌==◌, ◌&&◌, List, [], ◌∷◌, flat_map, Option, Some, None, if◌then◌else◌}
use Rattle.std.specs.Fmt.{signed_decimal}
use Rattle.std.specs.Option.{option_map}
use Rattle.std.specs.Str.{bytes_eq}
use Rattle.std.specs.Str.Parse.{signed_digits_value}
use Rattle.tap_base.specs.Interval.{fits}
use Rattle.tap_base.specs.Option.{◌>>=◌, provided}
use Rattle.tap_settings.specs.SettingText.{Assignment, is_name}

-- what stands before the first byte of a kind, and what stands behind it; none where there is no such byte
abbrev pub cut_at : ℕ → List ℕ → Option (List ℕ × List ℕ)
cut_at mark [] = None
cut_at mark (b ∷ bs) = if b == mark then Some ([], bs) else option_map (λ x. (b ∷ x.0, x.1)) (cut_at mark bs)

-- the number that a word is the decimal of; none where there is none of the signed 64-bit range
abbrev pub number_in : List ℕ → Option ℤ
number_in word = let z = signed_digits_value 10 word in provided (fits z && bytes_eq word (signed_decimal z)) z

-- the setting that a word is, or none: two names and a number, with `.` behind the first and `=` behind the second
abbrev pub setting_in : List ℕ → Option Assignment
setting_in word = do
  process ← cut_at 46 word
  input ← cut_at 61 process.1
  value ← number_in input.1
  provided (is_name process.0 && is_name input.0) (record { process = process.0; input = input.0; value = value })

-- a list of the setting, where there is one
abbrev pub listed : Option Assignment → List Assignment
listed None = []
listed (Some setting) = setting ∷ []

-- the settings among words
abbrev pub settings_among : List (List ℕ) → List Assignment
settings_among words = flat_map (λ word. listed (setting_in word)) words
