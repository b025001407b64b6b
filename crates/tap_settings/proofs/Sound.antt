-- Settings without an offence: each is for an input, and each input has at most one value, which is in its range.
use Rattle.std.proofs.Common.{◌≡◌, ◌==◌, ℕ, ℤ, Bool, true, false, List, [], ◌∷◌, ◌++◌, slice_get, Option, Some, None, is_some, refl, sym, ap, subst, ◌∙◌, append-nil, append_assoc}
use Rattle.std.specs.List.{list_all}
use Rattle.std.proofs.lemmas.Bool.Decides.{Decides-eqb}
use Rattle.std.proofs.lemmas.Option.{same_Some}
use Rattle.tap_base.specs.declared.place.Range.{Range}
use Rattle.tap_base.specs.declared.system.Process.{Process}
use Rattle.tap_base.specs.declared.system.Var.{Var}
use Rattle.tap_base.specs.Ranges.{is_within}
use Rattle.tap_settings.specs.declared.refusals.SettingCode.TheVariants as code
use Rattle.tap_settings.specs.declared.spots.Spot.{Spot}
use Rattle.tap_settings.specs.GivenInputs.{is_declared, value_given}
use Rattle.tap_base.specs.ListWords.{behind, first}
use Rattle.tap_settings.specs.Offences.{setting_offences, spot_offences}
use Rattle.tap_settings.specs.Values.{is_at, value_at, values_at}
use Rattle.tap_settings.specs.Refusals.{where_}
use Rattle.tap_settings.specs.SettingText.{Assignment}
use Rattle.tap_settings.specs.Spots.{spot_for}
use Rattle.tap_settings.proofs.Booleans.{not_false}
use Rattle.tap_settings.proofs.Faults.{not_due}
use Rattle.tap_base.proofs.ListFacts.{both_empty}
use Rattle.tap_settings.proofs.SpotFacts.{Stands, stands}
use Rattle.tap_settings.proofs.TableFacts.{no_value_there, value_there, values_more}
use Rattle.tap_base.proofs.OffenceFacts.{both_true}

-- An input has at most one value, which is in its range.
abbrev pub IsSound : Range → List ℤ → Type 0
IsSound range values = value_given range values ≡ first values

pub record Declared (processes : List Process) (i j : ℕ) (range : Range) : Type 0 where
  pub process : Process
  pub process_is : slice_get processes i ≡ Some process
  pub input : Var
  pub input_is : slice_get process.inputs j ≡ Some input
  pub range_is : range ≡ input.range

abbrev pub AreSound : List Process → List Assignment → Type 0
AreSound processes settings = (i j : ℕ) (range : Range) → Declared processes i j range → IsSound range (values_at processes i j settings)

-- the range of an input is one
one_range : (processes : List Process) (i j : ℕ) (range : Range) (spot : Spot) → Declared processes i j range → Stands processes spot → spot.process ≡ i → spot.input ≡ j → range ≡ spot.range
one_range processes i j range spot d s p x =
    let at : slice_get processes i ≡ Some s.process = subst (λ m. slice_get processes m ≡ Some s.process) p s.process_is in
    let same : s.process ≡ d.process = same_Some s.process d.process (sym at ∙ d.process_is) in
    let in_it : slice_get d.process.inputs j ≡ Some s.input = subst (λ (q : Process). slice_get q.inputs j ≡ Some s.input) same (subst (λ m. slice_get s.process.inputs m ≡ Some s.input) x s.input_is) in
    let input : s.input ≡ d.input = same_Some s.input d.input (sym in_it ∙ d.input_is) in
    d.range_is ∙ ap (λ (v : Var). v.range) (sym input) ∙ sym s.range_is

at_spot : (i j : ℕ) (spot : Spot) → is_at i j (Some spot) ≡ true → (spot.process ≡ i) × (spot.input ≡ j)
at_spot i j spot e = let k = both_true (spot.process == i) (spot.input == j) e in ((Decides-eqb spot.process i).0 k.0, (Decides-eqb spot.input j).0 k.1)

one_sound : (range : Range) (x : ℤ) → is_within range x ≡ true → IsSound range (x ∷ [])
one_sound range x e = rw e refl

no_first : (xs : List ℤ) → is_some (first xs) ≡ false → xs ≡ []
no_first [] e = refl
no_first (x ∷ xs) e = absurd cc

-- what an assignment without an offence is
pub record Clear (processes : List Process) (before : List Assignment) (a : Assignment) : Type 0 where
  pub spot : Spot
  pub found : spot_for processes a ≡ Some spot
  pub free : values_at processes spot.process spot.input before ≡ []
  pub within : is_within spot.range a.value ≡ true

pub clear_of : (processes : List Process) (before : List Assignment) (a : Assignment) → setting_offences processes before a ≡ [] → Clear processes before a
clear_of processes before a h = go (spot_for processes a) refl h where
  go : (o : Option Spot) → spot_for processes a ≡ o → spot_offences processes before a o ≡ [] → Clear processes before a
  go None e k = absurd cc
  go (Some spot) e k =
      let parts = both_empty (where_ (is_some (first (values_at processes spot.process spot.input before))) code.I2 a.process a.input) _ k in
      let free = not_due _ code.I2 a.process a.input parts.0 in
      let within = not_due _ code.I4 a.process a.input parts.1 in
      record { spot = spot; found = e; free = no_first _ free; within = not_false _ within }

pub clear_has_none : (processes : List Process) (before : List Assignment) (a : Assignment) → Clear processes before a → setting_offences processes before a ≡ []
clear_has_none processes before a c =
    let found = c.found in
    let free = c.free in
    let within = c.within in
    rw (found, free, within) refl

sound_more : (processes : List Process) (before : List Assignment) (a : Assignment) → Clear processes before a → AreSound processes before → AreSound processes (before ++ a ∷ [])
sound_more processes before a c sound i j range d = subst (IsSound range) (sym (values_more processes i j before a)) (go (is_at i j (Some c.spot)) refl) where
  go : (b : Bool) → is_at i j (Some c.spot) ≡ b → IsSound range (values_at processes i j before ++ value_at processes i j a)
  go false e =
      let none = no_value_there processes i j a (Some c.spot) c.found e in
      subst (IsSound range) (sym (ap (λ z. values_at processes i j before ++ z) none ∙ append-nil (values_at processes i j before))) (sound i j range d)
  go true e =
      let at = at_spot i j c.spot e in
      let empty : values_at processes i j before ≡ [] = subst (λ m. values_at processes i m before ≡ []) at.1 (subst (λ m. values_at processes m c.spot.input before ≡ []) at.0 c.free) in
      let one = value_there processes i j a c.spot c.found e in
      let wide : range ≡ c.spot.range = one_range processes i j range c.spot d (stands processes a.process a.input c.spot c.found) at.0 at.1 in
      let in_it : is_within range a.value ≡ true = ap (λ r. is_within r a.value) wide ∙ c.within in
      subst (IsSound range) (sym (ap (λ z. z ++ value_at processes i j a) empty ∙ one)) (one_sound range a.value in_it)

sound_from : (processes : List Process) (before rest : List Assignment) → behind (setting_offences processes) before rest ≡ [] → AreSound processes before → AreSound processes (before ++ rest)
sound_from processes before [] e sound = subst (AreSound processes) (sym (append-nil before)) sound
sound_from processes before (a ∷ rest) e sound =
    let parts = both_empty (setting_offences processes before a) _ e in
    let c = clear_of processes before a parts.0 in
    subst (AreSound processes) (append_assoc before (a ∷ []) rest) (sound_from processes (before ++ a ∷ []) rest parts.1 (sound_more processes before a c sound))

-- settings without an offence are sound
pub all_sound : (processes : List Process) (settings : List Assignment) → behind (setting_offences processes) [] settings ≡ [] → AreSound processes settings
all_sound processes settings e = sound_from processes [] settings e (λ i j range d. refl)

declared_from : (processes : List Process) (before rest : List Assignment) → behind (setting_offences processes) before rest ≡ [] → list_all (is_declared processes) rest ≡ true
declared_from processes before [] e = refl
declared_from processes before (a ∷ rest) e =
    let parts = both_empty (setting_offences processes before a) _ e in
    let c = clear_of processes before a parts.0 in
    let found = c.found in
    let more = declared_from processes (before ++ a ∷ []) rest parts.1 in
    rw (found, more) refl

-- and each is for an input
pub all_declared : (processes : List Process) (settings : List Assignment) → behind (setting_offences processes) [] settings ≡ [] → list_all (is_declared processes) settings ≡ true
all_declared processes settings e = declared_from processes [] settings e
