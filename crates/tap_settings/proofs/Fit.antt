-- The inputs that settings give fit the system.
use Rattle.std.proofs.Common.{◌≡◌, ℕ, suc, ◌+◌, ℤ, Bool, true, false, List, [], ◌∷◌, map, length, Option, Some, refl, ap, subst, ◌∙◌}
use Rattle.std.specs.List.{list_all}
use Rattle.std.proofs.lemmas.Option.{none-some, same_Some}
use Rattle.tap_base.specs.declared.place.Range.{Range}
use Rattle.tap_base.specs.declared.system.Inputs.{Inputs}
use Rattle.tap_base.specs.declared.system.Process.{Process}
use Rattle.tap_base.specs.declared.system.System.{System}
use Rattle.tap_base.specs.declared.system.Var.{Var}
use Rattle.tap_base.specs.declared.wire.WireField.{WireField}
use Rattle.tap_base.specs.Interval.{IsIn}
use Rattle.tap_base.specs.Lists.{EachBoth}
use Rattle.tap_base.specs.Option.{◌>>=◌, provided}
use Rattle.tap_base.specs.Ranges.{AreIn, is_within}
use Rattle.tap_base.proofs.OptionFacts.{bound}
use Rattle.tap_base.proofs.RangeFacts.{within_decides}
use Rattle.abstract_run.specs.Fits.{InputsFit}
use Rattle.tap_exec.specs.Semantics.{ProcessSemantics, input_ranges, input_semantics, messages_of, process_semantics, semantics_of}
use Rattle.tap_settings.specs.GivenInputs.{inputs_given, is_declared, value_given, values_given}
use Rattle.tap_base.specs.ListWords.{each_by_number, only}
use Rattle.tap_settings.specs.Values.{values_at}
use Rattle.tap_settings.specs.SettingText.{Assignment}

value_in : (range : Range) (xs : List ℤ) (y : ℤ) → value_given range xs ≡ Some y → IsIn y range
value_in range xs y e =
    let x = bound (λ z. provided (is_within range z) z) (only xs) y e in go x.0 (is_within range x.0) refl x.2
  where
    go : (x : ℤ) (b : Bool) → is_within range x ≡ b → provided b x ≡ Some y → IsIn y range
    go x true h k = subst (λ z. IsIn z range) (same_Some x y k) ((within_decides range x).0 h)
    go x false h k = absurd (none-some y k)

-- one value for each input of a process, within its range
record RowFits (inputs : List Var) (row : List ℤ) : Type 0 where
  counted : length row ≡ length (map input_semantics inputs)
  within : AreIn (map (λ i. i.range) (map input_semantics inputs)) row

row_fits : (n : ℕ) (values : ℕ → List ℤ) (inputs : List Var) (row : List ℤ) → each_by_number n (λ j v. value_given v.range (values j)) inputs ≡ Some row → RowFits inputs row
row_fits n values [] row e = let same : [] ≡ row = same_Some [] row e in subst (RowFits []) same (record { counted = refl; within = tt })
row_fits n values (v ∷ vs) row e =
    let f : ℕ → Var → Option ℤ = λ j v. value_given v.range (values j) in
    let y = bound (λ y. each_by_number (n + 1) f vs >>= λ ys. Some (y ∷ ys)) (f n v) row e in
    let ys = bound (λ ys. Some (y.0 ∷ ys)) (each_by_number (n + 1) f vs) row y.2 in
    let rest = row_fits (n + 1) values vs ys.0 ys.1 in
    subst (RowFits (v ∷ vs)) (same_Some (y.0 ∷ ys.0) row ys.2) (record { counted = ap suc rest.counted; within = (value_in v.range (values n) y.0 y.1, rest.within) })

-- the same for all processes
record RowsFit (processes : List ProcessSemantics) (rows : List (List ℤ)) : Type 0 where
  counted : map length rows ≡ map (λ p. length p.inputs) processes
  within : EachBoth (λ p values. AreIn (input_ranges p) values) processes rows

rows_fit : (n : ℕ) (messages : List (List WireField)) (all : List Process) (settings : List Assignment) (processes : List Process) (rows : List (List ℤ))
    → each_by_number n (values_given all settings) processes ≡ Some rows → RowsFit (map (process_semantics messages) processes) rows
rows_fit n messages all settings [] rows e = let same : [] ≡ rows = same_Some [] rows e in subst (RowsFit []) same (record { counted = refl; within = tt })
rows_fit n messages all settings (p ∷ ps) rows e =
    let f = values_given all settings in
    let y = bound (λ y. each_by_number (n + 1) f ps >>= λ ys. Some (y ∷ ys)) (f n p) rows e in
    let ys = bound (λ ys. Some (y.0 ∷ ys)) (each_by_number (n + 1) f ps) rows y.2 in
    let here = row_fits 0 (λ j. values_at all n j settings) p.inputs y.0 y.1 in
    let rest = rows_fit (n + 1) messages all settings ps ys.0 ys.1 in
    subst (RowsFit (map (process_semantics messages) (p ∷ ps))) (same_Some (y.0 ∷ ys.0) rows ys.2)
    (record { counted = ap (λ k. k ∷ map length ys.0) here.counted ∙ ap (λ ks. length (map input_semantics p.inputs) ∷ ks) rest.counted; within = (here.within, rest.within) })

pub given_fit : (system : System) (settings : List Assignment) (inputs : Inputs) → inputs_given system settings ≡ Some inputs → InputsFit (semantics_of system) inputs
given_fit system settings inputs e =
    let to : List (List ℤ) → Option Inputs = λ values. Some (record { of = values }) in
    let known = bound (λ known. each_by_number 0 (values_given system.processes known) system.processes >>= to) (provided (list_all (is_declared system.processes) settings) settings) inputs e in
    let values = bound to (each_by_number 0 (values_given system.processes known.0) system.processes) inputs known.2 in
    let fit = rows_fit 0 (messages_of system) system.processes known.0 system.processes values.0 values.1 in
    subst (InputsFit (semantics_of system)) (same_Some (record { of = values.0 }) inputs values.2) (record { counted = fit.counted; within = fit.within })
