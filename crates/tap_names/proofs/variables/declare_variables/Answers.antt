use Rattle.std.proofs.Common.{◌≡◌, sym, ◌∙◌, ap, subst, List, [], ◌∷◌, ◌++◌, take, arith}
use Rattle.std.specs.Prelude.{ℕ, Result}
use Rattle.std.specs.Option.{option_map}
use Rattle.tap_base.specs.declared.ast.AstVar.{AstVar}
use Rattle.tap_base.specs.declared.refusal.Refusal.{Refusal}
use Rattle.tap_base.specs.declared.system.Var.{Var}
use Rattle.tap_names.specs.declared.fault.TypeFault.{TypeFault}
use Rattle.tap_names.specs.declared.named.Named.{Named}
use Rattle.tap_names.specs.VariableOffences.{cells_among, var_names, variable_offences}
use Rattle.tap_names.specs.inner.Declares.{DeclaresVariables, judged_variable}
use Rattle.tap_base.specs.ListWords.{behind}
use Rattle.tap_names.specs.Names.{var_of, variable_named, variable_names}
use Rattle.tap_names.specs.Refusals.{Faults}
use Rattle.tap_names.specs.Tables.{Entry, entries_of, names_in}
use Rattle.tap_base.proofs.LoopFacts.{behind_on, each_on}
use Rattle.tap_names.proofs.Loops.{behind_fault, outer_on, passed_on}
use Rattle.tap_names.proofs.Vars.{cells_on, variables_on}
use Rattle.tap_names.proofs.variables.declare_variables.Goals as goal

module _ (consts : List (Entry Named)) (outer names : List (List ℕ)) (xs : List AstVar) (i cells : ℕ) (x : AstVar) (n : names ≡ outer ++ var_names (take i xs)) (k : cells ≡ cells_among (take i xs)) where
  -- judged by the table and the cells, and judged by the variables before
  same : variable_offences consts names cells x ≡ judged_variable consts outer (take i xs) x
  same = ap (λ z. variable_offences consts z cells x) n ∙ ap (λ z. variable_offences consts (outer ++ var_names (take i xs)) z x) k

pub returns-in_err-made : goal.returns-in_err-made
returns-in_err-made c =
    let k = entries_of c.args.constants.now in
    let outer = names_in (entries_of c.args.table.now) in
    let xs = c.args.vars.now in
    let i = c.vars.at in
    let x = c.index-vars-at.result in
    let G : List Refusal → Type 0 = λ z. Faults z c.in_err-made.field-0.0 in
    let P : Result (List Var) TypeFault → Type 0 = λ z. DeclaresVariables k xs (entries_of c.args.table.now) z (entries_of c.vars.table) in
    passed_on P (behind (judged_variable k outer) [] xs) (λ d h. h) _ _ c.from_residual.ensures.1
    (behind_fault (judged_variable k outer) xs i x c.vars-test.true c.index-vars-at.is _ (subst G (same k outer _ xs i c.vars.cells x c.vars.invariant.names c.vars.invariant.cells) c.in_err-made.ensures.judged) c.vars.invariant.clear)

pub vars-preserved : goal.vars-preserved
vars-preserved c =
    let k = entries_of c.args.constants.now in
    let outer = names_in (entries_of c.args.table.now) in
    let xs = c.args.vars.now in
    let i = c.vars.at in
    let x = c.index-vars-at.result in
    let l = c.vars-test.true in
    let q = c.index-vars-at.is in
    let old = entries_of c.vars.table in
    let m = c.in_ok-made.made in
    let e = c.in_ok-declare.ensures ∙ ap (λ z. old ++ (z, c.variable_named-named.result) ∷ []) c.as_str.ensures ∙ ap (λ z. old ++ (x.name.text, z) ∷ []) c.variable_named-named.ensures in
    record {
      clear = behind_on (judged_variable k outer) xs i x l q (sym (same k outer _ xs i c.vars.cells x c.vars.invariant.names c.vars.invariant.cells) ∙ c.in_ok-made.ensures.judged.0) c.vars.invariant.clear;
      names = outer_on (λ (v : AstVar). v.name.text) xs i x l q outer (variable_named c.vars.cells m.range x.kind) old _ e c.vars.invariant.names;
      listed = variables_on k xs i x l q c.vars.cells m.cells m.range old _ (option_map (λ rest. entries_of c.args.table.now ++ rest) (variable_names k 0 xs)) c.in_ok-made.ensures.cells c.in_ok-made.ensures.range e c.vars.invariant.listed;
      named = each_on (var_of k) xs i x l q m c.vars.found _ c.in_ok-push.ensures.ok c.in_ok-made.ensures.judged.1 c.vars.invariant.named;
      cells = cells_on k xs i x l q c.vars.cells m.cells c.in_ok-made.ensures.cells c.vars.invariant.cells;
      few = (let o = c.in_ok-made.ensures.cells in let r = c.in_ok-made.ensures.room in omega (arith, o, r));
    }
