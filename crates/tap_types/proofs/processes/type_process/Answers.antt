use Rattle.std.proofs.Common.{◌≡◌, ℕ, sym, ◌∙◌, ap, subst, List, ◌++◌, Option, Some, length}
use Rattle.std.specs.Option.{option_and_then}
use Rattle.tap_base.specs.declared.ast.AstAction.{AstAction}
use Rattle.tap_base.specs.declared.refusal.Refusal.{Refusal}
use Rattle.tap_base.specs.declared.system.Action.{Action}
use Rattle.tap_base.specs.declared.system.Process.{Process}
use Rattle.tap_base.specs.declared.system.Var.{Var}
use Rattle.tap_names.specs.declared.named.Named.{Named}
use Rattle.tap_types.specs.ActionOffences.{actions_offences, process_scope, process_uses, uses_with}
use Rattle.tap_base.specs.Option.{each}
use Rattle.tap_names.specs.Names.{constants, input_of, var_of}
use Rattle.tap_names.specs.Refusals.{Faults}
use Rattle.tap_types.specs.Systems.{action_of, process_of}
use Rattle.tap_names.specs.Tables.{Entry, entries_of, names_in}
use Rattle.tap_names.proofs.Loops.{passed}
use Rattle.tap_types.proofs.processes.type_process.Goals as goal

pub returns-in_err-actions : goal.returns-in_err-actions
returns-in_err-actions c =
    let p = c.args.process.now in
    let m = c.args.messages.now in
    let ns = names_in (entries_of c.args.process_table.now) in
    let N = entries_of c.args.declared.constants ++ entries_of c.args.declared.others in
    let S = process_scope m ns c.args.me N in
    let e = c.in_err-actions.field-0.0 in
    let F : List AstAction → Type 0 = λ z. Faults (actions_offences S z) e in
    let G : List Refusal → Type 0 = λ z. Faults z e in
    passed (process_uses m ns c.args.me p) (process_of m ns c.args.me p) _ _ c.from_residual.ensures.1
    (subst G (sym (ap (uses_with m ns c.args.me p) c.requires.declares.names)) (subst F c.as_slice.ensures c.in_err-actions.ensures))

pub returns : goal.returns
returns c =
    let p = c.args.process.now in
    let m = c.args.messages.now in
    let ns = names_in (entries_of c.args.process_table.now) in
    let N : List (Entry Named) = entries_of c.args.declared.constants ++ entries_of c.args.declared.others in
    let S = process_scope m ns c.args.me N in
    let K : List ℕ → ℕ → List Var → List Var → List Action → Option Process = λ n t is vs as_. Some (record { name = n; inputs = is; vars = vs; timers = t; actions = as_ }) in
    let I = each (input_of (constants p.consts)) p.inputs in
    let V = each (var_of (constants p.consts)) p.vars in
    let A : List (Entry Named) → Option (List Action) = λ z. each (action_of (process_scope m ns c.args.me z)) p.actions in
    let n = p.name.text in
    let t = length p.timers in
    let actions : A N ≡ Some c.in_ok-actions.actions = sym (ap (each (action_of S)) c.as_slice.ensures) ∙ c.in_ok-actions.ensures.1 in (
      ap (uses_with m ns c.args.me p) c.requires.declares.names ∙ sym (ap (actions_offences S) c.as_slice.ensures) ∙ c.in_ok-actions.ensures.0,
      ap (option_and_then (λ z. option_and_then (λ is. option_and_then (λ vs. option_and_then (K n t is vs) (A z)) V) I)) c.requires.declares.names
          ∙ ap (option_and_then (λ is. option_and_then (λ vs. option_and_then (K n t is vs) (A N)) V)) c.requires.declares.inputs
          ∙ ap (option_and_then (λ vs. option_and_then (K n t c.args.declared.inputs vs) (A N))) c.requires.declares.vars
          ∙ ap (option_and_then (K n t c.args.declared.inputs c.args.declared.vars)) actions
          ∙ ap (λ z. K z t c.args.declared.inputs c.args.declared.vars c.in_ok-actions.actions) (sym c.as_str.ensures ∙ sym c.in_ok-copy_of.ensures)
          ∙ ap (λ z. K c.in_ok-copy_of.field-0 z c.args.declared.inputs c.args.declared.vars c.in_ok-actions.actions) (sym c.len.ensures),
    )
