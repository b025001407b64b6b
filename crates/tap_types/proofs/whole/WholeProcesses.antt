-- Processes without an offence are processes of a resolved system.
use Rattle.std.proofs.Common.{◌≡◌, ℕ, ◌≤◌, Bool, List, [], ◌∷◌, ◌++◌, Option, Some, map, length, slice_get, ap, sym, ◌∙◌, subst}
use Rattle.std.proofs.lemmas.Option.{same_Some}
use Rattle.tap_base.specs.declared.ast.AstAction.{AstAction}
use Rattle.tap_base.specs.declared.ast.AstMessage.{AstMessage}
use Rattle.tap_base.specs.declared.ast.AstProcess.{AstProcess}
use Rattle.tap_base.specs.declared.system.Action.{Action}
use Rattle.tap_base.specs.declared.system.Process.{Process}
use Rattle.tap_base.specs.declared.system.System.{System}
use Rattle.tap_base.specs.declared.system.Var.{Var}
use Rattle.tap_base.specs.Lists.{AreDistinct, Each}
use Rattle.tap_base.specs.Option.{each}
use Rattle.tap_base.specs.Ranges.{ranges_of}
use Rattle.tap_base.proofs.ListFacts.{each_first, each_second, none_first, none_second}
use Rattle.tap_names.specs.declared.named.Named.{Named}
use Rattle.tap_names.specs.Declarations.{consts_offences, inner_offences, inputs_offences, timers_offences, too_many_actions, variables_offences}
use Rattle.tap_base.specs.ListWords.{joined}
use Rattle.tap_names.specs.Names.{constants, input_of, message_of, names_of}
use Rattle.tap_names.specs.Tables.{Entry, standing_for}
use Rattle.tap_names.specs.VariableOffences.{var_names}
use Rattle.tap_types.specs.ActionOffences.{action_offences, actions_offences, process_scope, process_uses, uses_with}
use Rattle.tap_types.specs.Given.{ActionIsGiven, ProcessIsGiven}
use Rattle.tap_base.specs.NamesOfSystems.{IsShort, ProcessIsShort, VarsAreDistinct}
use Rattle.tap_base.specs.Resolved.{IsInput, IsResolvedAction, IsResolvedProcess, IsVar}
use Rattle.tap_base.specs.Scope.{Scope as Reach, input_ranges}
use Rattle.tap_types.specs.SendOffences.{unreceived_by}
use Rattle.tap_types.specs.Systems.{action_of, process_of}
use Rattle.tap_types.proofs.whole.ProcessParts.{of_process}
use Rattle.tap_types.proofs.whole.Sendable.{Sendable}
use Rattle.tap_types.proofs.whole.Standing.{StandsFor}
use Rattle.tap_types.proofs.whole.StandingNames.{names_stand}
use Rattle.tap_types.proofs.whole.WholeActions.{action_good}
use Rattle.tap_types.proofs.whole.WholeVars.{actions_few, cells_few, input_names_kept, inputs_few, inputs_good, timers_few, var_names_kept, vars_distinct, vars_good, vars_have_cells}
use Rattle.tap_base.proofs.GatheredFacts.{each_first_of, each_length}

-- what is known of the process numbered n
pub record GoodProcess (system : System) (n : ℕ) (q : Process) : Type 0 where
  pub is : IsResolvedProcess system n q
  pub short : ProcessIsShort q
  pub distinct : VarsAreDistinct q

-- no offence in what a process declares
pub record NoneInner (p : AstProcess) : Type 0 where
  pub inputs : inputs_offences p ≡ []
  pub vars : variables_offences p ≡ []
  pub timers : timers_offences p ≡ []
  pub actions : too_many_actions (slice_get p.actions 256) ≡ []

pub none_inner : (p : AstProcess) → inner_offences p ≡ [] → NoneInner p
none_inner p h =
    let a = consts_offences p.consts in
    let b = inputs_offences p in
    let c = variables_offences p in
    let d = timers_offences p in
    let e = too_many_actions (slice_get p.actions 256) in
    let abcd = none_first (a ++ b ++ c ++ d) e h in
    let abc = none_first (a ++ b ++ c) d abcd in
    record {
      inputs = none_second a b (none_first (a ++ b) c abc);
      vars = none_second (a ++ b) c abc;
      timers = none_second (a ++ b ++ c) d abcd;
      actions = none_second (a ++ b ++ c ++ d) e h;
    }

uses_are : (ms : List AstMessage) (ns : List (List ℕ)) (n : ℕ) (p : AstProcess) (names : List (Entry Named)) → names_of p ≡ Some names → process_uses ms ns n p ≡ [] → actions_offences (process_scope ms ns n names) p.actions ≡ []
uses_are ms ns n p names e h = let F : Option (List (Entry Named)) → Type 0 = λ z. uses_with ms ns n p z ≡ [] in subst F e h

module _ (ms : List AstMessage) (ns : List (List ℕ)) (system : System) (n : ℕ) (process : Process) (received : List ℕ → List ℕ → Bool) (names : List (Entry Named))
    (kept : system.messages ≡ map message_of ms)
    (stand : (s : Reach) → s.cells ≡ ranges_of process.vars → s.inputs ≡ input_ranges process.inputs → (x : List ℕ) → StandsFor s process.timers (standing_for x names))
    (sendable : Sendable (process_scope ms ns n names) system n received) where
  actions_good : (as_ : List AstAction) (xs : List Action) → Each ActionIsGiven as_ → actions_offences (process_scope ms ns n names) as_ ≡ [] → joined (map (unreceived_by received) as_) ≡ [] → each (action_of (process_scope ms ns n names)) as_ ≡ Some xs → Each (IsResolvedAction system n process) xs
  actions_good [] xs given o u e = let F : List Action → Type 0 = λ z. Each (IsResolvedAction system n process) z in subst F (same_Some [] xs e) tt
  actions_good (a ∷ as_) xs given o u e =
      let c = process_scope ms ns n names in
      let F : List Action → Type 0 = λ z. Each (IsResolvedAction system n process) z in
      let r = each_first_of (action_of c) a as_ xs e in
      let here = action_good ms ns system n process received names kept stand sendable a r.0 given.0 (none_first (action_offences c a) (actions_offences c as_) o) (none_first (unreceived_by received a) (joined (map (unreceived_by received) as_)) u) r.2 in
      subst F r.4 (here, actions_good as_ r.1 given.1 (none_second (action_offences c a) (actions_offences c as_) o) (none_second (unreceived_by received a) (joined (map (unreceived_by received) as_)) u) r.3)

pub process_good : (ms : List AstMessage) (ns : List (List ℕ)) (system : System) (n : ℕ) (p : AstProcess) (q : Process) (received : List ℕ → List ℕ → Bool) → system.messages ≡ map message_of ms
    → ((names : List (Entry Named)) → Sendable (process_scope ms ns n names) system n received) → ProcessIsGiven p → IsShort p.name.text → inner_offences p ≡ [] → process_uses ms ns n p ≡ []
    → joined (map (unreceived_by received) p.actions) ≡ [] → process_of ms ns n p ≡ Some q → GoodProcess system n q
process_good ms ns system n p q received kept sendable given short inner uses sent e =
    let parts = of_process ms ns n p q e in
    let none = none_inner p inner in
    let k = constants p.consts in
    let process : Process = record { name = p.name.text; inputs = parts.inputs; vars = parts.vars; timers = length p.timers; actions = parts.actions } in
    let inputs = inputs_good p parts.inputs none.inputs parts.of_inputs in
    let vars = vars_good p parts.vars none.vars parts.of_vars in
    let stand : (s : Reach) → s.cells ≡ ranges_of parts.vars → s.inputs ≡ input_ranges parts.inputs → (x : List ℕ) → StandsFor s (length p.timers) (standing_for x parts.names) = λ s c i x. names_stand s p parts.inputs parts.vars parts.names c i given.0 (vars_have_cells p none.vars) parts.of_inputs parts.of_vars parts.named x in
    let actions = actions_good ms ns system n process received parts.names kept stand (sendable parts.names) p.actions parts.actions given.1 (uses_are ms ns n p parts.names parts.named uses) sent parts.of_actions in
    let I : Var → Type 0 = λ w. IsShort w.name in
    let few_inputs : length parts.inputs ≤ 256 = subst (λ z. z ≤ 256) (sym (each_length (input_of k) p.inputs parts.inputs parts.of_inputs)) (inputs_few p none.inputs) in
    let few_actions : length parts.actions ≤ 256 = subst (λ z. z ≤ 256) (sym (each_length (action_of (process_scope ms ns n parts.names)) p.actions parts.actions parts.of_actions)) (actions_few p none.actions) in
    let same_names : map (λ (v : Var). v.name) parts.inputs ++ map (λ (v : Var). v.name) parts.vars ≡ var_names p.inputs ++ var_names p.vars = ap (λ z. z ++ map (λ (v : Var). v.name) parts.vars) (input_names_kept k p.inputs parts.inputs parts.of_inputs) ∙ ap (λ z. var_names p.inputs ++ z) (var_names_kept k p.vars parts.vars parts.of_vars) in
    subst (GoodProcess system n) parts.is (record {
      is = record {
        inputs = each_first IsInput I parts.inputs inputs;
        vars = each_first IsVar I parts.vars vars;
        few_inputs = few_inputs;
        few_cells = cells_few p parts.vars none.vars parts.of_vars;
        few_timers = timers_few p none.timers;
        few_actions = few_actions;
        actions = actions;
      };
      short = (short, each_second IsInput I parts.inputs inputs, each_second IsVar I parts.vars vars);
      distinct = subst AreDistinct (sym same_names) (vars_distinct p none.inputs none.vars);
    })
