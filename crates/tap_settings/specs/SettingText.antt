-- The words that are settings.
use Rattle.std.specs.Prelude.{◌≡◌, ℕ, ℤ, Bool, false, ◌&&◌, ◌||◌, ◌==◌, IsTrue, FitsSigned, List, [], ◌∷◌, ◌++◌, map, codes}
use Rattle.std.specs.Char.{is_ascii_alphabetic, is_ascii_digit}
use Rattle.std.specs.Fmt.{signed_decimal}
use Rattle.std.specs.Int.{w64}
use Rattle.std.specs.List.{list_all}
use Rattle.tap_settings.specs.declared.settings.Setting.{Setting}

-- what a setting says: an input, by its name and that of its process, and the value that it has
pub record Assignment : Type 0 where
  pub process : List ℕ
  pub input : List ℕ
  pub value : ℤ

abbrev pub assignment_of : Setting → Assignment
assignment_of s = record { process = s.process.now; input = s.input.now; value = s.value }

abbrev pub assignments_of : List Setting → List Assignment
assignments_of settings = map assignment_of settings

-- letters, digits and `_`
abbrev pub in_name : ℕ → Bool
in_name b = is_ascii_alphabetic b || (is_ascii_digit b || (b == 95))

-- the form of a name: a letter, then letters, digits and `_`
abbrev pub is_name : List ℕ → Bool
is_name [] = false
is_name (b ∷ bs) = is_ascii_alphabetic b && list_all in_name bs

-- The word is the setting `P.X=INT`: two names, and a number of the signed 64-bit range, as it is written.
pub record SpellsSetting (word : List ℕ) (a : Assignment) : Type 0 where
  pub process : IsTrue (is_name a.process)
  pub input : IsTrue (is_name a.input)
  pub value : FitsSigned w64 a.value
  pub is : word ≡ a.process ++ codes "." ++ a.input ++ codes "=" ++ signed_decimal a.value

-- The word is no setting.
abbrev pub IsNoSetting : List ℕ → Type 0
IsNoSetting word = (a : Assignment) → SpellsSetting word a → ⊥
