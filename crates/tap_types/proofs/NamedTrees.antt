-- Every tree without an offence names a system.
use Rattle.std.proofs.Common.{◌≡◌, refl, ℕ, ◌+◌, List, [], ◌∷◌, ◌++◌, length, Option, Some, None}
use Rattle.std.specs.Prelude.{IsSome}
use Rattle.std.specs.Option.{option_and_then}
use Rattle.tap_base.specs.declared.place.Range.{Range}
use Rattle.tap_base.specs.declared.refusal.RefusalCode.TheVariants.{N1}
use Rattle.tap_base.specs.declared.ast.AstAction.{AstAction}
use Rattle.tap_base.specs.declared.ast.AstGuard.{AstGuard}
use Rattle.tap_base.specs.declared.ast.AstGuard.TheVariants as guard
use Rattle.tap_base.specs.declared.ast.AstMessage.{AstMessage}
use Rattle.tap_base.specs.declared.ast.AstProcess.{AstProcess}
use Rattle.tap_base.specs.declared.ast.AstScalar.{AstScalar}
use Rattle.tap_base.specs.declared.ast.AstScalar.TheVariants as scalar
use Rattle.tap_base.specs.declared.ast.AstVar.{AstVar}
use Rattle.tap_base.specs.declared.ast.Bound.{Bound}
use Rattle.tap_base.specs.declared.ast.Bound.TheVariants as bound
use Rattle.tap_base.specs.declared.system.Action.{Action}
use Rattle.tap_base.specs.declared.system.Guard.TheVariants as when
use Rattle.tap_base.specs.declared.system.Process.{Process}
use Rattle.tap_base.specs.Lists.{Each}
use Rattle.tap_names.specs.declared.named.Kind.TheVariants.{Boolean}
use Rattle.tap_names.specs.declared.named.Named.{Named}
use Rattle.tap_types.specs.ActionOffences.{action_offences, after_guard, guard_offences, process_scope, process_uses, use_offences, uses_with}
use Rattle.tap_names.specs.VariableOffences.{bound_offences, initial_offences, input_offences, scalar_offences, var_names, variable_offences, cells_among}
use Rattle.tap_names.specs.Declarations.{consts_offences, declaration_offences, inner_offences, inputs_offences, process_names, process_offences, processes_offences, timers_offences, variables_offences}
use Rattle.tap_names.specs.MessageOffences.{message_names, messages_offences}
use Rattle.tap_names.specs.NameOffences.{name_offences, count_offences}
use Rattle.tap_names.specs.Kinds.{cells_of, scalar_of}
use Rattle.tap_types.specs.Laws.{NamesOne}
use Rattle.tap_base.specs.ListWords.{by_number}
use Rattle.tap_base.specs.Option.{each}
use Rattle.tap_names.specs.Names.{bound_value, constant_value, constants, initial_of, input_names, input_of, names_of, range_of, timer_names, var_of, variable_named, variable_names}
use Rattle.tap_types.specs.Scopes.{Scope, message_in, named_in, process_in}
use Rattle.tap_types.specs.SendOffences.{unreceived_sends}
use Rattle.tap_types.specs.StmtOffences.{body_offences, message_name, peer_offences, stmt_offences}
use Rattle.tap_types.specs.Systems.{action_of, body_of, guard_of, process_of, processes_of, stmt_of, timer_number}
use Rattle.tap_names.specs.Tables.{Entry, names_in, standing_for}
use Rattle.tap_types.proofs.NamedStmts.{peer_there, stmt_known, timer_there, value_there}
use Rattle.tap_base.proofs.OptionFacts.{both_some, some_map, then_some}
use Rattle.tap_base.proofs.GatheredFacts.{behind_each, each_some, mapped_some}
use Rattle.tap_base.proofs.OffenceFacts.{there}
use Rattle.tap_base.proofs.ListFacts.{none_first, none_second}

-- ---- actions

guard_there : (c : Scope) (g : AstGuard) → guard_offences c g ≡ [] → IsSome (guard_of c g)
guard_there c (guard.Local e) h = some_map (λ x. when.Local x) _ (value_there c Boolean e h)
guard_there c (guard.Receive m q) h = both_some (λ k p. when.Receive k p) (message_in c m.text) (process_in c q.text) (there (message_in c m.text) N1 m.place (none_first (message_name c m) (peer_offences c q) h)) (peer_there q.place c.me (process_in c q.text) (none_second (message_name c m) (peer_offences c q) h))
guard_there c (guard.Timeout t) h = some_map (λ k. when.Timeout k) (timer_number (named_in c t.text)) (timer_there t.place (named_in c t.text) h)

action_there : (c : Scope) (a : AstAction) → action_offences c a ≡ [] → IsSome (action_of c a)
action_there c a h =
    let s = after_guard c a.guard in
    both_some {C = Action} (λ g b. record { guard = g; body = b; place = a.place }) (guard_of c a.guard) (body_of s a.body)
    (guard_there c a.guard (none_first (guard_offences c a.guard) (body_offences s a.body) h))
    (mapped_some (stmt_offences s) (stmt_of s) (stmt_known s) a.body (none_second (guard_offences c a.guard) (body_offences s a.body) h))

-- ---- declarations

bound_there : (names : List (Entry Named)) (b : Bound) → bound_offences names b ≡ [] → IsSome (bound_value names b)
bound_there names (bound.Number n) h = refl
bound_there names (bound.Name x) h = there (constant_value (standing_for x.text names)) N1 x.place h

range_there : (names : List (Entry Named)) (s : AstScalar) → scalar_offences names s ≡ [] → IsSome (range_of names s)
range_there names scalar.Boolean h = refl
range_there names (scalar.Between lo hi) h = both_some {C = Range} (λ l u. record { lo = l; hi = u }) (bound_value names lo) (bound_value names hi) (bound_there names lo (none_first (bound_offences names lo) (bound_offences names hi) h)) (bound_there names hi (none_second (bound_offences names lo) (bound_offences names hi) h))

initial_there : (names : List (Entry Named)) (r : Range) (o : Option Bound) → initial_offences names o ≡ [] → IsSome (initial_of names r o)
initial_there names r None h = refl
initial_there names r (Some b) h = bound_there names b h

abbrev Ranged : List (Entry Named) → AstVar → Type 0
Ranged names v = IsSome (range_of names (scalar_of v.kind))

abbrev Valued : List (Entry Named) → AstVar → Type 0
Valued names v = IsSome (range_of names (scalar_of v.kind)) × ((r : Range) → IsSome (initial_of names r v.initial))

each_there : {A B : Type 0} (f : A → Option B) (Q : A → Type 0) → ((x : A) → Q x → IsSome (f x)) → (xs : List A) → Each Q xs → IsSome (each f xs)
each_there f Q k [] h = refl
each_there f Q k (x ∷ xs) h = then_some (λ y. option_and_then (λ ys. Some (y ∷ ys)) (each f xs)) (f x) (k x h.0) (λ y. then_some (λ ys. Some (y ∷ ys)) (each f xs) (each_there f Q k xs h.1) (λ ys. refl))

input_there : (names : List (Entry Named)) (v : AstVar) → Ranged names v → IsSome (input_of names v)
input_there names v h = then_some _ (range_of names (scalar_of v.kind)) h (λ r. refl)

var_there : (names : List (Entry Named)) (v : AstVar) → Valued names v → IsSome (var_of names v)
var_there names v h = then_some _ (range_of names (scalar_of v.kind)) h.0 (λ r. then_some _ (initial_of names r v.initial) (h.1 r) (λ i. refl))

names_there : (names : List (Entry Named)) (k : ℕ) (vs : List AstVar) → Each (Valued names) vs → IsSome (variable_names names k vs)
names_there names k [] h = refl
names_there names k (v ∷ vs) h = then_some (λ range. option_and_then (λ rest. Some ((v.name.text, variable_named k range v.kind) ∷ rest)) (variable_names names (k + cells_of v.kind) vs)) (range_of names (scalar_of v.kind)) h.0.0 (λ r. then_some (λ rest. Some ((v.name.text, variable_named k r v.kind) ∷ rest)) (variable_names names (k + cells_of v.kind) vs) (names_there names (k + cells_of v.kind) vs h.1) (λ rest. refl))

inputs_ranged : (p : AstProcess) → inputs_offences p ≡ [] → Each (Ranged (constants p.consts)) p.inputs
inputs_ranged p h = behind_each (λ before v. input_offences (constants p.consts) (var_names before) v) (Ranged (constants p.consts)) (λ before v e. range_there (constants p.consts) (scalar_of v.kind) (none_second (name_offences (names_in (constants p.consts) ++ var_names before) v.name ++ count_offences 256 (var_names before) v.name) (scalar_offences (constants p.consts) (scalar_of v.kind)) (none_first _ _ e))) [] p.inputs h

variables_valued : (p : AstProcess) → variables_offences p ≡ [] → Each (Valued (constants p.consts)) p.vars
variables_valued p h =
    let k = constants p.consts in
    behind_each (λ before v. variable_offences k (var_names p.inputs ++ var_names before) (cells_among before) v) (Valued k)
    (λ before v e.
    let n = name_offences (names_in k ++ (var_names p.inputs ++ var_names before)) v.name in
    let abc = none_first (n ++ scalar_offences k (scalar_of v.kind) ++ initial_offences k v.initial) _ (none_first _ _ e) in (
      range_there k (scalar_of v.kind) (none_second n (scalar_offences k (scalar_of v.kind)) (none_first (n ++ scalar_offences k (scalar_of v.kind)) (initial_offences k v.initial) abc)),
      λ r. initial_there k r v.initial (none_second (n ++ scalar_offences k (scalar_of v.kind)) (initial_offences k v.initial) abc),
    )) [] p.vars h

-- ---- processes

process_there : (ms : List AstMessage) (ns : List (List ℕ)) (n : ℕ) (p : AstProcess) → inner_offences p ≡ [] → process_uses ms ns n p ≡ [] → IsSome (process_of ms ns n p)
process_there ms ns n p d u =
    let k = constants p.consts in
    let cdef = none_first (consts_offences p.consts ++ inputs_offences p ++ variables_offences p) (timers_offences p) (none_first _ _ d) in
    let vs = variables_valued p (none_second (consts_offences p.consts ++ inputs_offences p) (variables_offences p) cdef) in
    let is = inputs_ranged p (none_second (consts_offences p.consts) (inputs_offences p) (none_first (consts_offences p.consts ++ inputs_offences p) (variables_offences p) cdef)) in
    by (names_of p) (then_some (λ variables. Some (k ++ (input_names 0 p.inputs ++ variables ++ timer_names 0 p.timers))) (variable_names k 0 p.vars) (names_there k 0 p.vars vs) (λ z. refl)) u is vs
  where
    by : (o : Option (List (Entry Named))) → IsSome o → uses_with ms ns n p o ≡ [] → Each (Ranged (constants p.consts)) p.inputs → Each (Valued (constants p.consts)) p.vars
        → IsSome (option_and_then (λ names. option_and_then (λ inputs. option_and_then (λ vars. option_and_then {T = List Action} {U = Process} (λ actions. Some (record { name = p.name.text; inputs = inputs; vars = vars; timers = length p.timers; actions = actions })) (each (action_of (process_scope ms ns n names)) p.actions)) (each (var_of (constants p.consts)) p.vars)) (each (input_of (constants p.consts)) p.inputs)) o)
    by None h u is vs = absurd cc
    by (Some z) h u is vs =
        then_some _ (each (input_of (constants p.consts)) p.inputs) (each_there (input_of (constants p.consts)) (Ranged (constants p.consts)) (input_there (constants p.consts)) p.inputs is)
        (λ inputs. then_some _ (each (var_of (constants p.consts)) p.vars) (each_there (var_of (constants p.consts)) (Valued (constants p.consts)) (var_there (constants p.consts)) p.vars vs)
        (λ vars. then_some _ (each (action_of (process_scope ms ns n z)) p.actions) (each_some (action_of (process_scope ms ns n z)) (action_offences (process_scope ms ns n z)) (action_there (process_scope ms ns n z)) p.actions u) (λ actions. refl)))

processes_there : (ms : List AstMessage) (ns : List (List ℕ)) (n : ℕ) (ps : List AstProcess) → Each (λ p. inner_offences p ≡ []) ps → by_number n (process_uses ms ns) ps ≡ [] → IsSome (processes_of ms ns n ps)
processes_there ms ns n [] d u = refl
processes_there ms ns n (p ∷ ps) d u = then_some (λ q. option_and_then (λ qs. Some (q ∷ qs)) (processes_of ms ns (n + 1) ps)) (process_of ms ns n p) (process_there ms ns n p d.0 (none_first (process_uses ms ns n p) _ u)) (λ q. then_some (λ qs. Some (q ∷ qs)) (processes_of ms ns (n + 1) ps) (processes_there ms ns (n + 1) ps d.1 (none_second (process_uses ms ns n p) _ u)) (λ qs. refl))

pub named : NamesOne
named tree h =
    let ms = tree.messages in
    let ps = tree.processes in
    let du = none_first (declaration_offences tree ++ use_offences tree) (unreceived_sends tree) h in
    let d = none_second (messages_offences ms) (processes_offences ms ps) (none_first (declaration_offences tree) (use_offences tree) du) in
    let inner = behind_each (λ before p. process_offences (message_names ms) (process_names before) p) (λ p. inner_offences p ≡ []) (λ before p e. none_second (name_offences (message_names ms ++ process_names before) p.name ++ count_offences 64 (process_names before) p.name) (inner_offences p) e) [] ps d in
    some_map _ (processes_of ms (process_names ps) 0 ps) (processes_there ms (process_names ps) 0 ps inner (none_second (declaration_offences tree) (use_offences tree) du))
