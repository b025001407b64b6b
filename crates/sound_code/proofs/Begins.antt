-- Verified code begins within its ranges.
use Rattle.std.proofs.Common.{◌≡◌, ◌≤◌, ◌&&◌, ℕ, suc, true, List, [], ◌∷◌, map, sum, length, refl, slice_get, Some, arith}
use Rattle.std.specs.Prelude.{ℤ, ◌≤ℤ◌, int_le, nat_le, nat_lt}
use Rattle.std.specs.List.{list_all}
use Rattle.std.proofs.lemmas.Bool.{and_parts, leb-true, ltb-true}
use Rattle.std.proofs.lemmas.Int.{ints}
use Rattle.std.proofs.lemmas.List.{length-map}
use Rattle.std.proofs.lemmas.List.Sums.{sum_by-cons}
use Rattle.tap_base.specs.declared.system.Var.{Var}
use Rattle.tap_base.specs.Interval.{IsIn}
use Rattle.tap_base.specs.Lists.{Each}
use Rattle.tap_base.proofs.ListFacts.{each_map}
use Rattle.tap_exec.specs.Semantics.{ProcessSemantics}
use Rattle.register_code.specs.declared.code.Code.{Code}
use Rattle.register_code.specs.declared.code.CodeProcess.{CodeProcess}
use Rattle.register_code.specs.declared.code.CodeVariable.{CodeVariable}
use Rattle.register_code.specs.CodeSemantics.{code_process}
use Rattle.register_code.specs.Declarations.{action_limits, at_most, cells_within, counts_fit, input_fits, is_name, message_limits, names_fit, names_of, process_limits, program_counts_fit, variable_fits}
use Rattle.register_code.specs.Registers.{variable_of}
use Rattle.register_code.specs.Verified.{IsVerified}
use Rattle.register_code.proofs.Kept.{CodeKeeps, code_keeps}
use Rattle.register_code.proofs.Passing.{all_at}
use Rattle.sound_code.specs.Ranges.{CodeBeginsInRange}

each_there : {A : Type 0} (P : A → Type 0) (xs : List A) → ((k : ℕ) (x : A) → slice_get xs k ≡ Some x → P x) → Each P xs
each_there P [] h = tt
each_there P (x ∷ xs) h = (h 0 x refl, each_there P xs (λ k y e. h (suc k) y e))

-- each variable has a cell, so there are no more variables than cells
few_by_cells : (vs : List CodeVariable) → list_all variable_fits vs ≡ true → length vs ≤ sum (map (λ (v : CodeVariable). v.cells) vs)
few_by_cells [] e = omega arith
few_by_cells (v ∷ vs) e =
    let parts = and_parts (variable_fits v) (list_all variable_fits vs) e in
    let first = and_parts (nat_lt 0 v.cells && int_le v.lo v.initial) (int_le v.initial v.hi) parts.0 in
    let some = ltb-true 0 v.cells (and_parts (nat_lt 0 v.cells) (int_le v.lo v.initial) first.0).0 in
    let rest = few_by_cells vs parts.1 in
    let more = sum_by-cons (λ (n : ℕ). n) v.cells (map (λ (u : CodeVariable). u.cells) vs) in omega (arith, some, rest, more)

begins_within : (v : CodeVariable) → variable_fits v ≡ true → IsIn v.initial (variable_of v).range
begins_within v e =
    let last = and_parts (nat_lt 0 v.cells && int_le v.lo v.initial) (int_le v.initial v.hi) e in
    let first = and_parts (nat_lt 0 v.cells) (int_le v.lo v.initial) last.0 in (at_most_is v.lo v.initial first.1, at_most_is v.initial v.hi last.1) where
      at_most_is : (x y : ℤ) → int_le x y ≡ true → x ≤ℤ y
      at_most_is x y f = grind (arith, ints)

module _ (code : Code) (verified : IsVerified code) where
  abbrev keeps : CodeKeeps code
  keeps = code_keeps code verified

  most : (program_counts_fit code ≡ true) × (list_all process_limits code.processes ≡ true)
  most =
      let differ = and_parts (program_counts_fit code && list_all message_limits code.messages && list_all process_limits code.processes) _ keeps.limits in
      let processes = and_parts (program_counts_fit code && list_all message_limits code.messages) (list_all process_limits code.processes) differ.0 in
      ((and_parts (program_counts_fit code) (list_all message_limits code.messages) processes.0).0, processes.1)

  variables_fit : (k : ℕ) (p : CodeProcess) → slice_get code.processes k ≡ Some p → list_all variable_fits p.variables ≡ true
  variables_fit k p at = (and_parts (list_all input_fits p.inputs) (list_all variable_fits p.variables) (keeps.values k p at)).1

  cells_few : (k : ℕ) (p : CodeProcess) → slice_get code.processes k ≡ Some p → sum (map (λ (v : CodeVariable). v.cells) p.variables) ≤ 4096
  cells_few k p at =
      let limits = all_at process_limits code.processes k p most.1 at in
      let actions = and_parts (is_name p.name && counts_fit p && names_fit (names_of p)) (list_all action_limits p.actions) limits in
      let names = and_parts (is_name p.name && counts_fit p) (names_fit (names_of p)) actions.0 in
      let counts = (and_parts (is_name p.name) (counts_fit p) names.0).1 in
      let last = and_parts (at_most 256 p.inputs && at_most 65535 p.variables && cells_within p.variables && nat_le p.timers 32) (at_most 256 p.actions) counts in
      let timers = and_parts (at_most 256 p.inputs && at_most 65535 p.variables && cells_within p.variables) (nat_le p.timers 32) last.0 in
      leb-true _ 4096 (and_parts (at_most 256 p.inputs && at_most 65535 p.variables) (cells_within p.variables) timers.0).1

  few_processes : length code.processes ≤ 64
  few_processes = leb-true (length code.processes) 64 (and_parts (at_most 256 code.messages && nat_lt 0 (length code.processes)) (at_most 64 code.processes) most.0).1

  few_vars : (k : ℕ) (p : CodeProcess) → slice_get code.processes k ≡ Some p → length (map variable_of p.variables) ≤ 4096
  few_vars k p at = omega (arith, length-map p.variables variable_of, few_by_cells p.variables (variables_fit k p at), cells_few k p at)

  initials : (k : ℕ) (p : CodeProcess) → slice_get code.processes k ≡ Some p → Each (λ (v : Var). IsIn v.initial v.range) (map variable_of p.variables)
  initials k p at =
      each_map (λ v. variable_fits v ≡ true) (λ (v : Var). IsIn v.initial v.range) variable_of p.variables begins_within
      (each_there (λ v. variable_fits v ≡ true) p.variables (λ j v is. all_at variable_fits p.variables j v (variables_fit k p at) is))

pub code_begins_in_range : CodeBeginsInRange
code_begins_in_range code verified =
    let fit : (p : CodeProcess) → Type 0 = λ p. (length (map variable_of p.variables) ≤ 4096) × Each (λ (v : Var). IsIn v.initial v.range) (map variable_of p.variables) in
    let all = each_there fit code.processes (λ k p at. (few_vars code verified k p at, initials code verified k p at)) in
    record {
      few = omega (arith, length-map code.processes (code_process code), few_processes code verified);
      few_vars = each_map fit (λ (p : ProcessSemantics). length p.vars ≤ 4096) (code_process code) code.processes (λ p h. h.0) all;
      initials = each_map fit (λ (p : ProcessSemantics). Each (λ (v : Var). IsIn v.initial v.range) p.vars) (code_process code) code.processes (λ p h. h.1) all;
    }
