use Rattle.std.proofs.Common.{◌≡◌, sym, ◌∙◌, ap, subst, List, [], ◌++◌, Some, length, arith}
use Rattle.std.specs.Prelude.{Result, slice_get}
use Rattle.std.specs.Option.{option_map}
use Rattle.tap_base.specs.declared.ast.AstAction.{AstAction}
use Rattle.tap_base.specs.declared.ast.AstVar.{AstVar}
use Rattle.tap_base.specs.declared.ast.Ident.{Ident}
use Rattle.tap_base.specs.declared.refusal.Refusal.{Refusal}
use Rattle.tap_names.specs.declared.declared.Declared.{Declared}
use Rattle.tap_names.specs.declared.fault.TypeFault.{TypeFault}
use Rattle.tap_names.specs.declared.fault.TypeFault.TheVariants as fault
use Rattle.tap_names.specs.Declarations.{consts_offences, inner_offences, inputs_offences, timers_offences, too_many_actions, variables_offences}
use Rattle.tap_names.specs.inner.Declares.{DeclaresInner, judged_input, judged_timer, judged_variable}
use Rattle.tap_base.specs.Option.{each}
use Rattle.tap_names.specs.Limits.{most_actions}
use Rattle.tap_base.specs.ListWords.{behind, first}
use Rattle.tap_names.specs.Names.{constants, input_names, input_of, timer_names, var_of, variable_names}
use Rattle.tap_names.specs.Refusals.{Faults}
use Rattle.tap_names.specs.Tables.{entries_of, names_in}
use Rattle.tap_base.proofs.ListFacts.{none_both}
use Rattle.tap_names.proofs.Inner.{inner_actions, inner_clear, inner_inputs, inner_timers, inner_variables, inputs_same, variables_same, timers_same, names_found}
use Rattle.tap_names.proofs.Loops.{passed_on}
use Rattle.tap_names.proofs.declared.declare_inner.Goals as goal

pub returns-in_err-inputs : goal.returns-in_err-inputs
returns-in_err-inputs c =
    let p = c.args.process.now in
    let K = entries_of c.in_ok-constants.constants in
    let a : consts_offences p.consts ≡ [] = sym (ap consts_offences c.as_slice.ensures) ∙ c.in_ok-constants.ensures.0 in
    let k2 : K ≡ constants p.consts = c.in_ok-constants.ensures.1 ∙ ap constants c.as_slice.ensures in
    let P : Result Declared TypeFault → Type 0 = λ r. DeclaresInner p r in
    let e = c.in_err-inputs.field-0.0 in
    let F : List AstVar → Type 0 = λ z. Faults (behind (judged_input K) [] z) e in
    let G : List Refusal → Type 0 = λ z. Faults z e in
    passed_on P (inner_offences p) (λ d h. h) _ _ c.from_residual-in_err-inputs.ensures.1 (inner_inputs p e a (subst G (inputs_same p K K K K k2) (subst F c.as_slice-2.ensures c.in_err-inputs.ensures)))

pub returns-in_err-vars : goal.returns-in_err-vars
returns-in_err-vars c =
    let p = c.args.process.now in
    let K = entries_of c.in_ok-constants.constants in
    let a : consts_offences p.consts ≡ [] = sym (ap consts_offences c.as_slice.ensures) ∙ c.in_ok-constants.ensures.0 in
    let k2 : K ≡ constants p.consts = c.in_ok-constants.ensures.1 ∙ ap constants c.as_slice.ensures in
    let I = entries_of c.in_ok-inputs.inputs.table in
    let b : inputs_offences p ≡ [] = sym (inputs_same p K I I I k2) ∙ sym (ap (λ z. behind (judged_input K) [] z) c.as_slice-2.ensures) ∙ c.in_ok-inputs.ensures.0 in
    let i2 : I ≡ input_names 0 p.inputs = c.in_ok-inputs.ensures.1 ∙ ap (input_names 0) c.as_slice-2.ensures in
    let P : Result Declared TypeFault → Type 0 = λ r. DeclaresInner p r in
    let e = c.in_err-vars.field-0.0 in
    let F : List AstVar → Type 0 = λ z. Faults (behind (judged_variable K (names_in I)) [] z) e in
    let G : List Refusal → Type 0 = λ z. Faults z e in
    passed_on P (inner_offences p) (λ d h. h) _ _ c.from_residual-in_err-vars.ensures.1 (inner_variables p e a b (subst G (variables_same p K I I I k2 i2) (subst F c.as_slice-3.ensures c.in_err-vars.ensures)))

pub returns-in_err-declare_timers : goal.returns-in_err-declare_timers
returns-in_err-declare_timers c =
    let p = c.args.process.now in
    let K = entries_of c.in_ok-constants.constants in
    let a : consts_offences p.consts ≡ [] = sym (ap consts_offences c.as_slice.ensures) ∙ c.in_ok-constants.ensures.0 in
    let k2 : K ≡ constants p.consts = c.in_ok-constants.ensures.1 ∙ ap constants c.as_slice.ensures in
    let I = entries_of c.in_ok-inputs.inputs.table in
    let b : inputs_offences p ≡ [] = sym (inputs_same p K I I I k2) ∙ sym (ap (λ z. behind (judged_input K) [] z) c.as_slice-2.ensures) ∙ c.in_ok-inputs.ensures.0 in
    let i2 : I ≡ input_names 0 p.inputs = c.in_ok-inputs.ensures.1 ∙ ap (input_names 0) c.as_slice-2.ensures in
    let V = entries_of c.declare_variables.new.table in
    let v : variables_offences p ≡ [] = sym (variables_same p K I I I k2 i2) ∙ sym (ap (λ z. behind (judged_variable K (names_in I)) [] z) c.as_slice-3.ensures) ∙ c.in_ok-vars.ensures.0 in
    let v2 : option_map (λ rest. I ++ rest) (variable_names K 0 p.vars) ≡ Some V = sym (ap (λ z. option_map (λ rest. I ++ rest) (variable_names K 0 z)) c.as_slice-3.ensures) ∙ c.in_ok-vars.ensures.1 in
    let P : Result Declared TypeFault → Type 0 = λ r. DeclaresInner p r in
    let e = c.in_err-declare_timers.field-0.0 in
    let F : List Ident → Type 0 = λ z. Faults (behind (judged_timer K (names_in V)) [] z) e in
    let G : List Refusal → Type 0 = λ z. Faults z e in
    passed_on P (inner_offences p) (λ d h. h) _ _ c.from_residual-in_err-declare_timers.ensures.1 (inner_timers p e a b v (subst G (timers_same p K I V V k2 i2 v2) (subst F c.as_slice-4.ensures c.in_err-declare_timers.ensures)))

pub returns-in_err-check_actions : goal.returns-in_err-check_actions
returns-in_err-check_actions c =
    let p = c.args.process.now in
    let K = entries_of c.in_ok-constants.constants in
    let a : consts_offences p.consts ≡ [] = sym (ap consts_offences c.as_slice.ensures) ∙ c.in_ok-constants.ensures.0 in
    let k2 : K ≡ constants p.consts = c.in_ok-constants.ensures.1 ∙ ap constants c.as_slice.ensures in
    let I = entries_of c.in_ok-inputs.inputs.table in
    let b : inputs_offences p ≡ [] = sym (inputs_same p K I I I k2) ∙ sym (ap (λ z. behind (judged_input K) [] z) c.as_slice-2.ensures) ∙ c.in_ok-inputs.ensures.0 in
    let i2 : I ≡ input_names 0 p.inputs = c.in_ok-inputs.ensures.1 ∙ ap (input_names 0) c.as_slice-2.ensures in
    let V = entries_of c.declare_variables.new.table in
    let v : variables_offences p ≡ [] = sym (variables_same p K I I I k2 i2) ∙ sym (ap (λ z. behind (judged_variable K (names_in I)) [] z) c.as_slice-3.ensures) ∙ c.in_ok-vars.ensures.0 in
    let v2 : option_map (λ rest. I ++ rest) (variable_names K 0 p.vars) ≡ Some V = sym (ap (λ z. option_map (λ rest. I ++ rest) (variable_names K 0 z)) c.as_slice-3.ensures) ∙ c.in_ok-vars.ensures.1 in
    let t : timers_offences p ≡ [] = sym (timers_same p K I V V k2 i2 v2) ∙ sym (ap (λ z. behind (judged_timer K (names_in V)) [] z) c.as_slice-4.ensures) ∙ c.in_ok-declare_timers.ensures.0 in
    let T = entries_of c.declare_timers.new.table in
    let t2 : T ≡ V ++ timer_names 0 p.timers = c.in_ok-declare_timers.ensures.1 ∙ ap (λ z. V ++ timer_names 0 z) c.as_slice-4.ensures in
    let P : Result Declared TypeFault → Type 0 = λ r. DeclaresInner p r in
    let r = c.in_err-check_actions.field-0.0 in
    let F : List AstAction → Type 0 = λ z. first (too_many_actions (slice_get z most_actions)) ≡ Some r in
    passed_on P (inner_offences p) (λ d h. h) _ (fault.Refused r) c.from_residual-in_err-check_actions.ensures.1 (inner_actions p (fault.Refused r) (inner_clear p a b v t) (subst F c.as_slice-5.ensures c.in_err-check_actions.ensures))

pub returns : goal.returns
returns c =
    let p = c.args.process.now in
    let K = entries_of c.in_ok-constants.constants in
    let a : consts_offences p.consts ≡ [] = sym (ap consts_offences c.as_slice.ensures) ∙ c.in_ok-constants.ensures.0 in
    let k2 : K ≡ constants p.consts = c.in_ok-constants.ensures.1 ∙ ap constants c.as_slice.ensures in
    let I = entries_of c.in_ok-inputs.inputs.table in
    let b : inputs_offences p ≡ [] = sym (inputs_same p K I I I k2) ∙ sym (ap (λ z. behind (judged_input K) [] z) c.as_slice-2.ensures) ∙ c.in_ok-inputs.ensures.0 in
    let i2 : I ≡ input_names 0 p.inputs = c.in_ok-inputs.ensures.1 ∙ ap (input_names 0) c.as_slice-2.ensures in
    let V = entries_of c.declare_variables.new.table in
    let v : variables_offences p ≡ [] = sym (variables_same p K I I I k2 i2) ∙ sym (ap (λ z. behind (judged_variable K (names_in I)) [] z) c.as_slice-3.ensures) ∙ c.in_ok-vars.ensures.0 in
    let v2 : option_map (λ rest. I ++ rest) (variable_names K 0 p.vars) ≡ Some V = sym (ap (λ z. option_map (λ rest. I ++ rest) (variable_names K 0 z)) c.as_slice-3.ensures) ∙ c.in_ok-vars.ensures.1 in
    let t : timers_offences p ≡ [] = sym (timers_same p K I V V k2 i2 v2) ∙ sym (ap (λ z. behind (judged_timer K (names_in V)) [] z) c.as_slice-4.ensures) ∙ c.in_ok-declare_timers.ensures.0 in
    let T = entries_of c.declare_timers.new.table in
    let t2 : T ≡ V ++ timer_names 0 p.timers = c.in_ok-declare_timers.ensures.1 ∙ ap (λ z. V ++ timer_names 0 z) c.as_slice-4.ensures in
    let x : too_many_actions (slice_get p.actions most_actions) ≡ [] = sym (ap (λ (z : List AstAction). too_many_actions (slice_get z most_actions)) c.as_slice-5.ensures) ∙ c.in_ok-check_actions.ensures in (
      none_both _ (too_many_actions (slice_get p.actions most_actions)) (inner_clear p a b v t) x,
      record {
        names = names_found p K I V T k2 i2 v2 t2;
        inputs = ap (λ z. each (input_of z) p.inputs) (sym k2) ∙ sym (ap (each (input_of K)) c.as_slice-2.ensures) ∙ c.in_ok-inputs.ensures.2;
        vars = ap (λ z. each (var_of z) p.vars) (sym k2) ∙ sym (ap (each (var_of K)) c.as_slice-3.ensures) ∙ c.in_ok-vars.ensures.2;
        timers = (let n : length c.as_slice-4.result.now ≡ length p.timers = ap length c.as_slice-4.ensures in let m = c.in_ok-declare_timers.ensures.2 in omega (arith, n, m));
      },
    )
