-- Lists of words that are settings.
use Rattle.std.proofs.Common.{◌≡◌, ◌+◌, ◌<◌, ℕ, List, [], ◌∷◌, ◌++◌, Option, Some, None, MatchOption, is_some, Result, Ok, Err, OnOk, length, drop, get_or, ap, sym, ◌∙◌, append_assoc, append-nil}
use Rattle.std.proofs.lemmas.List.{map-append}
use Rattle.tap_base.proofs.ListFacts.{cut_at_item}
use Rattle.tap_settings.specs.SettingText.{Assignment, IsNoSetting, SpellsSetting, assignment_of, assignments_of}
use Rattle.tap_settings.specs.declared.settings.Setting.{Setting}
use Rattle.tapc_core.specs.SettingWords.{listed, setting_in, settings_among}
use Rattle.tapc_core.proofs.SettingWords.{setting_found, setting_spelled}

-- ---- all of them

module _ (words : List (List ℕ)) (i : ℕ) (w : List ℕ) (l : i < length words) (q : w ≡ get_or words i w) where
  -- one more word, where it is a setting, stands behind those before it
  pub among_on : (before after : List Assignment) → after ≡ before ++ listed (setting_in w) → before ++ settings_among (drop i words) ≡ settings_among words → after ++ settings_among (drop (i + 1) words) ≡ settings_among words
  among_on before after e k =
      let rest = settings_among (drop (i + 1) words) in
      ap (λ z. z ++ rest) e ∙ append_assoc before (listed (setting_in w)) rest ∙ sym (ap (λ z. before ++ settings_among z) (cut_at_item words i w l q)) ∙ k

-- ---- one of them

-- a setting that a word spells was put behind others
pub pushed_setting : (word : List ℕ) (s : Setting) (before after : List Setting) → SpellsSetting word (assignment_of s) → after ≡ before ++ s ∷ [] → assignments_of after ≡ assignments_of before ++ listed (setting_in word)
pushed_setting word s before after spells e =
    ap assignments_of e ∙ map-append assignment_of before (s ∷ []) ∙ ap (λ o. assignments_of before ++ listed o) (sym (setting_spelled word (assignment_of s) spells))

-- what is found of a word tells whether it is a setting
pub found_spelled : (word : List ℕ) (o : Option Setting) → MatchOption o (IsNoSetting word) (λ s. SpellsSetting word (assignment_of s)) → is_some o ≡ is_some (setting_in word)
found_spelled word None none = ap is_some (setting_found word None none)
found_spelled word (Some s) spells = ap is_some (setting_found word (Some (assignment_of s)) spells)

-- where none is found, there is none to list
pub none_listed : (word : List ℕ) (before : List Assignment) → IsNoSetting word → before ≡ before ++ listed (setting_in word)
none_listed word before none = sym (ap (λ o. before ++ listed o) (sym (setting_found word None none)) ∙ append-nil before)

pub on_ok : {T E : Type 0} {P Q : Type 0} (r : Result T E) → (P → Q) → OnOk r P → OnOk r Q
on_ok (Ok x) f h = f h
on_ok (Err e) f h = tt
