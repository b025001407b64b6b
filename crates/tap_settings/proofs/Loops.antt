-- Loops over settings: the setting at hand has the first offence of all.
use Rattle.std.proofs.Common.{◌≡◌, ℕ, ◌+◌, ◌<◌, List, [], length, drop, take, get_or, map}
use Rattle.tap_base.specs.ListWords.{behind}
use Rattle.tap_base.proofs.LoopFacts.{said_cut}
use Rattle.tap_settings.specs.declared.refusals.SettingRefusal.{SettingRefusal}
use Rattle.tap_settings.specs.declared.refusals.SettingsFault.{SettingsFault}
use Rattle.tap_settings.specs.Refusals.{Faults}
use Rattle.tap_settings.proofs.Faults.{front_of}

pub behind_fault : {A B : Type 0} (g : B → A) (f : List A → A → List SettingRefusal) (xs : List B) (i : ℕ) (x : B) → i < length xs → x ≡ get_or xs i x → (e : SettingsFault) → Faults (f (map g (take i xs)) (g x)) e
    → behind f (map g (take i xs)) (map g (drop i xs)) ≡ behind f [] (map g xs) → Faults (behind f [] (map g xs)) e
behind_fault g f xs i x l q e h k = front_of (f (map g (take i xs)) (g x)) (behind f (map g (take (i + 1) xs)) (map g (drop (i + 1) xs))) (behind f [] (map g xs)) e (said_cut g f xs i x l q k) h
