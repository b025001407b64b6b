-- Settings have no offence exactly where they give inputs.
use Rattle.std.proofs.Common.{◌≡◌, ℕ, ◌+◌, ℤ, Bool, true, false, ◌==◌, List, [], ◌∷◌, ◌++◌, slice_get, Option, Some, None, is_some, is_none, IsSome, refl, sym, ap, subst, ◌∙◌, append_assoc}
use Rattle.std.specs.Prelude.{◌↔◌}
use Rattle.std.specs.List.{list_all}
use Rattle.std.proofs.lemmas.Grind.{flat_map-append}
use Rattle.std.proofs.lemmas.Option.{none-some, same_Some}
use Rattle.tap_base.specs.declared.place.Range.{Range}
use Rattle.tap_base.specs.declared.system.Inputs.{Inputs}
use Rattle.tap_base.specs.declared.system.Process.{Process}
use Rattle.tap_base.specs.declared.system.System.{System}
use Rattle.tap_base.specs.declared.system.Var.{Var}
use Rattle.tap_base.specs.Option.{◌>>=◌, provided}
use Rattle.tap_base.specs.Ranges.{is_within}
use Rattle.tap_base.proofs.OptionFacts.{bound}
use Rattle.tap_settings.specs.declared.refusals.SettingCode.TheVariants as code
use Rattle.tap_settings.specs.GivenInputs.{inputs_given, is_declared, value_given, values_given}
use Rattle.tap_base.specs.ListWords.{behind, by_number, each_by_number, first}
use Rattle.tap_settings.specs.Offences.{missing_among, missing_in, setting_offences, settings_offences}
use Rattle.tap_settings.specs.Values.{first_at, is_at, value_at, values_at}
use Rattle.tap_settings.specs.Refusals.{where_}
use Rattle.tap_settings.specs.SettingText.{Assignment}
use Rattle.tap_settings.specs.Spots.{spot_for}
use Rattle.tap_settings.specs.inner.Table.{Holds, Rows, held_at, values_among}
use Rattle.tap_base.proofs.OffenceFacts.{both_true}
use Rattle.tap_settings.proofs.Faults.{not_due}
use Rattle.tap_base.proofs.ListFacts.{both_empty}
use Rattle.tap_base.proofs.NumberFacts.{added, given_at, none_by_number, same_by_number}
use Rattle.tap_settings.proofs.Sound.{Clear, all_declared, all_sound, clear_has_none}
use Rattle.tap_settings.proofs.SpotFacts.{stands}
use Rattle.tap_settings.proofs.TableFacts.{value_there}
use Rattle.std.proofs.lemmas.Bool.Decides.{Decides-eqb}

-- ---- from no offence to inputs

-- sound values are those given
sound_values : (processes : List Process) (settings : List Assignment) → behind (setting_offences processes) [] settings ≡ [] → each_by_number 0 (values_given processes settings) processes ≡ values_among (first_at processes settings) processes
sound_values processes settings e =
    let sound = all_sound processes settings e in
    same_by_number (values_given processes settings) (λ i p. each_by_number 0 (λ j v. first_at processes settings i j) p.inputs) processes
    (λ i p h. same_by_number (λ j v. value_given v.range (values_at processes i j settings)) (λ j v. first_at processes settings i j) p.inputs
    (λ j v k. sound i j v.range (record { process = p; process_is = h; input = v; input_is = k; range_is = refl })))

-- what settings without an offence give
pub given_is : (system : System) (settings : List Assignment) (values : List (List ℤ)) → behind (setting_offences system.processes) [] settings ≡ [] → values_among (first_at system.processes settings) system.processes ≡ Some values
    → inputs_given system settings ≡ Some (record { of = values })
given_is system settings values e h =
    let known = all_declared system.processes settings e in
    let there = sound_values system.processes settings e ∙ h in
    rw (known, there) refl

-- a table that holds what settings give
table_given : (system : System) (settings : List Assignment) (rows : Rows) (values : List (List ℤ)) → Holds system.processes settings rows
    → behind (setting_offences system.processes) [] settings ≡ [] → missing_among (held_at rows) system.processes ≡ [] → values_among (held_at rows) system.processes ≡ Some values
    → (settings_offences system settings ≡ []) × (inputs_given system settings ≡ Some (record { of = values }))
table_given system settings rows values holds e m v =
    let same : held_at rows ≡ first_at system.processes settings = λ k. λ i j. holds i j k in
    let missing : missing_among (first_at system.processes settings) system.processes ≡ [] = ap (λ f. missing_among f system.processes) (sym same) ∙ m in
    let there : values_among (first_at system.processes settings) system.processes ≡ Some values = ap (λ f. values_among f system.processes) (sym same) ∙ v in
    (rw (e, missing) refl, given_is system settings values e there)

-- the same of the slices that the code works on
pub judged_table : (system : System) (settings : List Assignment) (processes : List Process) (rows slice : Rows) (values : List (List ℤ)) → processes ≡ system.processes → slice ≡ rows
    → (behind (setting_offences processes) [] settings ≡ []) × Holds processes settings rows → (missing_among (held_at slice) processes ≡ []) × (values_among (held_at slice) processes ≡ Some values)
    → (settings_offences system settings ≡ []) × (inputs_given system settings ≡ Some (record { of = values }))
judged_table system settings processes rows slice values e f given judged =
    let clear = subst (λ (ps : List Process). behind (setting_offences ps) [] settings ≡ []) e given.0 in
    let holds = subst (λ (ps : List Process). Holds ps settings rows) e given.1 in
    let missing = subst (λ (ps : List Process). missing_among (held_at rows) ps ≡ []) e (subst (λ (z : Rows). missing_among (held_at z) processes ≡ []) f judged.0) in
    let there = subst (λ (ps : List Process). values_among (held_at rows) ps ≡ Some values) e (subst (λ (z : Rows). values_among (held_at z) processes ≡ Some values) f judged.1) in
    table_given system settings rows values holds clear missing there

value_due : (o : Option ℤ) → is_none o ≡ false → (x : ℤ) × (o ≡ Some x)
value_due None e = absurd cc
value_due (Some x) e = (x, refl)

full_row : (n : ℕ) (process : List ℕ) (value : ℕ → Option ℤ) (inputs : List Var) → by_number n (λ j v. where_ (is_none (value j)) code.I3 process v.name) inputs ≡ []
    → (row : List ℤ) × (each_by_number n (λ j v. value j) inputs ≡ Some row)
full_row n process value [] e = ([], refl)
full_row n process value (v ∷ vs) e =
    let parts = both_empty (where_ (is_none (value n)) code.I3 process v.name) _ e in
    let here = value_due (value n) (not_due _ code.I3 process v.name parts.0) in
    let rest = full_row (n + 1) process value vs parts.1 in
    (here.0 ∷ rest.0, added n (λ j v. value j) v vs here.0 rest.0 here.1 rest.1)

full_rows : (n : ℕ) (value : ℕ → ℕ → Option ℤ) (processes : List Process) → by_number n (λ i p. missing_in p.name (value i) p.inputs) processes ≡ []
    → (rows : List (List ℤ)) × (each_by_number n (λ i p. each_by_number 0 (λ j v. value i j) p.inputs) processes ≡ Some rows)
full_rows n value [] e = ([], refl)
full_rows n value (p ∷ ps) e =
    let parts = both_empty (missing_in p.name (value n) p.inputs) _ e in
    let here = full_row 0 p.name (value n) p.inputs parts.0 in
    let rest = full_rows (n + 1) value ps parts.1 in
    (here.0 ∷ rest.0, added n (λ i p. each_by_number 0 (λ j v. value i j) p.inputs) p ps here.0 rest.0 here.1 rest.1)

gives : (system : System) (settings : List Assignment) → settings_offences system settings ≡ [] → IsSome (inputs_given system settings)
gives system settings e =
    let parts = both_empty (behind (setting_offences system.processes) [] settings) _ e in
    let values = full_rows 0 (first_at system.processes settings) system.processes parts.1 in
    ap is_some (given_is system settings values.0 parts.0 values.1)

-- ---- from inputs to no offence

some_of : {A : Type 0} (o : Option A) → IsSome o → (x : A) × (o ≡ Some x)
some_of None e = absurd cc
some_of (Some x) e = (x, refl)

-- What is known where settings give inputs: each is for an input, and each input has one value, in its range.
record Known (processes : List Process) (settings : List Assignment) : Type 0 where
  each : list_all (is_declared processes) settings ≡ true
  one : (i j : ℕ) (p : Process) (v : Var) → slice_get processes i ≡ Some p → slice_get p.inputs j ≡ Some v → (x : ℤ) × (value_given v.range (values_at processes i j settings) ≡ Some x)

when_true : {A : Type 0} (b : Bool) (x y : A) → provided b x ≡ Some y → (b ≡ true) × (x ≡ y)
when_true true x y e = (refl, same_Some x y e)
when_true false x y e = absurd (none-some y e)

known_of : (system : System) (settings : List Assignment) (inputs : Inputs) → inputs_given system settings ≡ Some inputs → Known system.processes settings
known_of system settings inputs e =
    let to : List Assignment → List (List ℤ) → Option Inputs = λ known values. Some (record { of = values }) in
    let first_ = bound (λ known. each_by_number 0 (values_given system.processes known) system.processes >>= to known) (provided (list_all (is_declared system.processes) settings) settings) inputs e in
    let yes = when_true (list_all (is_declared system.processes) settings) settings first_.0 first_.1 in
    let values = bound (to first_.0) (each_by_number 0 (values_given system.processes first_.0) system.processes) inputs first_.2 in
    let F : List Assignment → Type 0 = λ z. each_by_number 0 (values_given system.processes z) system.processes ≡ Some values.0 in
    let all : each_by_number 0 (values_given system.processes settings) system.processes ≡ Some values.0 = subst F (sym yes.1) values.1 in
    record {
      each = yes.0;
      one = λ i j p v h k.
          let row = given_at (values_given system.processes settings) system.processes values.0 i p all h in
          given_at (λ j v. value_given v.range (values_at system.processes i j settings)) p.inputs row.0 j v row.1 k;
    }

-- one value among others is alone
alone : (range : Range) (xs ys : List ℤ) (x w : ℤ) → value_given range (xs ++ x ∷ ys) ≡ Some w → (xs ≡ []) × (is_within range x ≡ true)
alone range [] [] x w e = (refl, (when_true (is_within range x) x w e).0)
alone range [] (y ∷ ys) x w e = absurd (none-some w e)
alone range (a ∷ []) ys x w e = absurd (none-some w e)
alone range (a ∷ b ∷ xs) ys x w e = absurd (none-some w e)

has_first : (range : Range) (xs : List ℤ) (w : ℤ) → value_given range xs ≡ Some w → is_none (first xs) ≡ false
has_first range [] w e = absurd (none-some w e)
has_first range (x ∷ xs) w e = refl

none_missing : (processes : List Process) (settings : List Assignment) → Known processes settings → missing_among (first_at processes settings) processes ≡ []
none_missing processes settings k =
    none_by_number (λ i p. missing_in p.name (first_at processes settings i) p.inputs) processes
    (λ i p h. none_by_number (λ j v. where_ (is_none (first_at processes settings i j)) code.I3 p.name v.name) p.inputs
    (λ j v l. let it = k.one i j p v h l in let there = has_first v.range (values_at processes i j settings) it.0 it.1 in ap (λ b. where_ b code.I3 p.name v.name) there))

clear_within : (processes : List Process) (settings before rest : List Assignment) (a : Assignment) → Known processes settings → settings ≡ before ++ a ∷ rest → is_declared processes a ≡ true → Clear processes before a
clear_within processes settings before rest a k e d =
    let found = some_of (spot_for processes a) d in
    let spot = found.0 in
    let s = stands processes a.process a.input spot found.1 in
    let it = k.one spot.process spot.input s.process s.input s.process_is s.input_is in
    let p : (spot.process == spot.process) ≡ true = (Decides-eqb spot.process spot.process).1 refl in
    let x : (spot.input == spot.input) ≡ true = (Decides-eqb spot.input spot.input).1 refl in
    let there : is_at spot.process spot.input (Some spot) ≡ true = rw (p, x) refl in
    let mine = value_there processes spot.process spot.input a spot found.1 there in
    let split : values_at processes spot.process spot.input settings ≡ values_at processes spot.process spot.input before ++ a.value ∷ values_at processes spot.process spot.input rest =
    ap (values_at processes spot.process spot.input) e ∙ flat_map-append (value_at processes spot.process spot.input) before (a ∷ rest)
    ∙ ap (λ z. values_at processes spot.process spot.input before ++ (z ++ values_at processes spot.process spot.input rest)) mine in
    let F : List ℤ → Type 0 = λ z. value_given s.input.range z ≡ Some it.0 in
    let only_ = alone s.input.range (values_at processes spot.process spot.input before) (values_at processes spot.process spot.input rest) a.value it.0 (subst F split it.1) in
    record { spot = spot; found = found.1; free = only_.0; within = ap (λ r. is_within r a.value) s.range_is ∙ only_.1 }

none_behind : (processes : List Process) (settings before rest : List Assignment) → Known processes settings → settings ≡ before ++ rest → list_all (is_declared processes) rest ≡ true → behind (setting_offences processes) before rest ≡ []
none_behind processes settings before [] k e d = refl
none_behind processes settings before (a ∷ rest) k e d =
    let both = both_true (is_declared processes a) (list_all (is_declared processes) rest) d in
    let here = clear_has_none processes before a (clear_within processes settings before rest a k e both.0) in
    let more = none_behind processes settings (before ++ a ∷ []) rest k (e ∙ sym (append_assoc before (a ∷ []) rest)) both.1 in
    rw (here, more) refl

clears : (system : System) (settings : List Assignment) → IsSome (inputs_given system settings) → settings_offences system settings ≡ []
clears system settings e =
    let it = some_of (inputs_given system settings) e in
    let k = known_of system settings it.0 it.1 in
    let given = none_behind system.processes settings [] settings k refl k.each in
    let missing = none_missing system.processes settings k in
    rw (given, missing) refl

pub given_or_refused : (system : System) (settings : List Assignment) → (settings_offences system settings ≡ []) ↔ IsSome (inputs_given system settings)
given_or_refused system settings = (gives system settings, clears system settings)
