-- What a process declares, phase by phase.
use Rattle.std.proofs.Common.{◌≡◌, ℕ, ◌+◌, refl, sym, ◌∙◌, ap, List, [], ◌∷◌, ◌++◌, Some}
use Rattle.std.specs.Prelude.{slice_get}
use Rattle.std.specs.Option.{option_map, option_and_then}
use Rattle.std.proofs.lemmas.List.{map-append}
use Rattle.std.proofs.lemmas.Option.{option_and_then_some, same_Some}
use Rattle.tap_base.proofs.ListFacts.{none_both}
use Rattle.tap_base.proofs.OptionFacts.{option_map_some}
use Rattle.tap_base.specs.declared.ast.AstProcess.{AstProcess}
use Rattle.tap_base.specs.declared.ast.AstVar.{AstVar}
use Rattle.tap_base.specs.declared.refusal.Refusal.{Refusal}
use Rattle.tap_names.specs.declared.fault.TypeFault.{TypeFault}
use Rattle.tap_names.specs.declared.named.Named.{Named}
use Rattle.tap_names.specs.Declarations.{consts_offences, inner_offences, inputs_offences, timers_offences, too_many_actions, variables_offences}
use Rattle.tap_names.specs.VariableOffences.{var_names}
use Rattle.tap_names.specs.inner.Declares.{judged_input, judged_timer, judged_variable}
use Rattle.tap_names.specs.Kinds.{cells_of, scalar_of}
use Rattle.tap_names.specs.Limits.{most_actions}
use Rattle.tap_base.specs.ListWords.{behind}
use Rattle.tap_names.specs.Names.{constants, input_names, names_of, range_of, timer_names, variable_named, variable_names}
use Rattle.tap_names.specs.Refusals.{Faults}
use Rattle.tap_names.specs.Tables.{Entry, names_in}
use Rattle.tap_names.proofs.Faults.{front, back}

names_inputs : (n : ℕ) (vs : List AstVar) → names_in (input_names n vs) ≡ var_names vs
names_inputs n [] = refl
names_inputs n (v ∷ vs) = ap (λ z. v.name.text ∷ z) (names_inputs (n + 1) vs)

names_variables : (c : List (Entry Named)) (n : ℕ) (vs : List AstVar) (es : List (Entry Named)) → variable_names c n vs ≡ Some es → names_in es ≡ var_names vs
names_variables c n [] es e = ap names_in (sym (same_Some [] es e))
names_variables c n (v ∷ vs) es e =
    option_and_then_some (λ range. option_and_then (λ rest. Some ((v.name.text, variable_named n range v.kind) ∷ rest)) (variable_names c (n + cells_of v.kind) vs)) (range_of c (scalar_of v.kind)) es e
    (λ range r s. option_and_then_some (λ rest. Some ((v.name.text, variable_named n range v.kind) ∷ rest)) (variable_names c (n + cells_of v.kind) vs) es s
    (λ rest t u. ap names_in (sym (same_Some ((v.name.text, variable_named n range v.kind) ∷ rest) es u)) ∙ ap (λ z. v.name.text ∷ z) (names_variables c (n + cells_of v.kind) vs rest t)))

module _ (p : AstProcess) (k i v t : List (Entry Named)) (k2 : k ≡ constants p.consts) where
  pub inputs_same : behind (judged_input k) [] p.inputs ≡ inputs_offences p
  inputs_same = ap (λ z. behind (judged_input z) [] p.inputs) k2

  pub variables_same : i ≡ input_names 0 p.inputs → behind (judged_variable k (names_in i)) [] p.vars ≡ variables_offences p
  variables_same i2 =
      ap (λ z. behind (judged_variable z (names_in i)) [] p.vars) k2
      ∙ ap (λ z. behind (judged_variable (constants p.consts) z) [] p.vars) (ap names_in i2 ∙ names_inputs 0 p.inputs)

  pub names_vars : i ≡ input_names 0 p.inputs → option_map (λ rest. i ++ rest) (variable_names k 0 p.vars) ≡ Some v → names_in v ≡ var_names p.inputs ++ var_names p.vars
  names_vars i2 v2 =
      option_map_some (λ rest. i ++ rest) (variable_names k 0 p.vars) v v2
      (λ es r s. ap names_in (sym s) ∙ map-append (λ (e : Entry Named). e.0) i es ∙ ap (λ z. z ++ names_in es) (ap names_in i2 ∙ names_inputs 0 p.inputs) ∙ ap (λ z. var_names p.inputs ++ z) (names_variables k 0 p.vars es r))

  pub timers_same : i ≡ input_names 0 p.inputs → option_map (λ rest. i ++ rest) (variable_names k 0 p.vars) ≡ Some v → behind (judged_timer k (names_in v)) [] p.timers ≡ timers_offences p
  timers_same i2 v2 =
      ap (λ z. behind (judged_timer z (names_in v)) [] p.timers) k2
      ∙ ap (λ z. behind (judged_timer (constants p.consts) z) [] p.timers) (names_vars i2 v2)

  pub names_found : i ≡ input_names 0 p.inputs → option_map (λ rest. i ++ rest) (variable_names k 0 p.vars) ≡ Some v → t ≡ v ++ timer_names 0 p.timers → names_of p ≡ Some (k ++ t)
  names_found i2 v2 t2 =
      option_map_some (λ rest. i ++ rest) (variable_names k 0 p.vars) v v2
      (λ es r s. let w : variable_names (constants p.consts) 0 p.vars ≡ Some es = sym (ap (λ z. variable_names z 0 p.vars) k2) ∙ r in
      ap (option_and_then (λ vs. Some (constants p.consts ++ (input_names 0 p.inputs ++ vs ++ timer_names 0 p.timers)))) w
      ∙ ap (λ z. Some (z ++ (input_names 0 p.inputs ++ es ++ timer_names 0 p.timers))) (sym k2)
      ∙ ap (λ z. Some (k ++ (z ++ es ++ timer_names 0 p.timers))) (sym i2)
      ∙ ap (λ z. Some (k ++ (z ++ timer_names 0 p.timers))) s
      ∙ ap (λ z. Some (k ++ z)) (sym t2))

-- the first offence in a phase, behind phases without one
module _ (p : AstProcess) where
  abbrev A : List Refusal
  A = consts_offences p.consts

  abbrev E : List Refusal
  E = too_many_actions (slice_get p.actions most_actions)

  pub inner_inputs : (e : TypeFault) → A ≡ [] → Faults (inputs_offences p) e → Faults (inner_offences p) e
  inner_inputs e a h =
      front (A ++ inputs_offences p ++ variables_offences p ++ timers_offences p) E e
      (front (A ++ inputs_offences p ++ variables_offences p) (timers_offences p) e (front (A ++ inputs_offences p) (variables_offences p) e (back A (inputs_offences p) e a h)))

  pub inner_variables : (e : TypeFault) → A ≡ [] → inputs_offences p ≡ [] → Faults (variables_offences p) e → Faults (inner_offences p) e
  inner_variables e a b h =
      front (A ++ inputs_offences p ++ variables_offences p ++ timers_offences p) E e
      (front (A ++ inputs_offences p ++ variables_offences p) (timers_offences p) e (back (A ++ inputs_offences p) (variables_offences p) e (none_both A (inputs_offences p) a b) h))

  pub inner_timers : (e : TypeFault) → A ≡ [] → inputs_offences p ≡ [] → variables_offences p ≡ [] → Faults (timers_offences p) e → Faults (inner_offences p) e
  inner_timers e a b v h =
      front (A ++ inputs_offences p ++ variables_offences p ++ timers_offences p) E e
      (back (A ++ inputs_offences p ++ variables_offences p) (timers_offences p) e (none_both (A ++ inputs_offences p) (variables_offences p) (none_both A (inputs_offences p) a b) v) h)

  pub inner_clear : A ≡ [] → inputs_offences p ≡ [] → variables_offences p ≡ [] → timers_offences p ≡ [] → A ++ inputs_offences p ++ variables_offences p ++ timers_offences p ≡ []
  inner_clear a b v t = none_both (A ++ inputs_offences p ++ variables_offences p) (timers_offences p) (none_both (A ++ inputs_offences p) (variables_offences p) (none_both A (inputs_offences p) a b) v) t

  pub inner_actions : (e : TypeFault) → A ++ inputs_offences p ++ variables_offences p ++ timers_offences p ≡ [] → Faults E e → Faults (inner_offences p) e
  inner_actions e a h = back (A ++ inputs_offences p ++ variables_offences p ++ timers_offences p) E e a h
