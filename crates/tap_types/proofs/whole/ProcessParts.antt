-- What a process, an action and a receive guard are found from.
use Rattle.std.proofs.Common.{◌≡◌, ℕ, zero, suc, ◌+◌, Bool, true, false, ◌||◌, List, [], ◌∷◌, Option, Some, length, slice_get, refl, ap, sym, subst, ◌∙◌, arith}
use Rattle.std.specs.Prelude.{option_and_then}
use Rattle.std.specs.List.{list_any}
use Rattle.std.proofs.lemmas.Option.{none-some, same_Some}
use Rattle.tap_base.specs.declared.ast.AstAction.{AstAction}
use Rattle.tap_base.specs.declared.ast.AstGuard.TheVariants as guard
use Rattle.tap_base.specs.declared.ast.AstMessage.{AstMessage}
use Rattle.tap_base.specs.declared.ast.AstProcess.{AstProcess}
use Rattle.tap_base.specs.declared.ast.Ident.{Ident}
use Rattle.tap_base.specs.declared.system.Action.{Action}
use Rattle.tap_base.specs.declared.system.Guard.{Guard}
use Rattle.tap_base.specs.declared.system.Guard.TheVariants as when
use Rattle.tap_base.specs.declared.system.Process.{Process}
use Rattle.tap_base.specs.declared.system.Var.{Var}
use Rattle.tap_base.specs.declared.tree.Stmt.{Stmt}
use Rattle.tap_base.specs.Option.{each}
use Rattle.tap_base.proofs.OptionFacts.{bound}
use Rattle.tap_names.specs.declared.named.Named.{Named}
use Rattle.tap_names.specs.Names.{constants, input_of, names_of, var_of}
use Rattle.tap_names.specs.Tables.{Entry}
use Rattle.tap_types.specs.ActionOffences.{after_guard, process_scope}
use Rattle.tap_types.specs.Scopes.{Scope, message_in, process_in}
use Rattle.tap_types.specs.Systems.{action_of, body_of, guard_of, process_of, processes_of}

-- ---- one process

pub record OfProcess (ms : List AstMessage) (ns : List (List ℕ)) (n : ℕ) (p : AstProcess) (q : Process) : Type 0 where
  pub names : List (Entry Named)
  pub inputs : List Var
  pub vars : List Var
  pub actions : List Action
  pub named : names_of p ≡ Some names
  pub of_inputs : each (input_of (constants p.consts)) p.inputs ≡ Some inputs
  pub of_vars : each (var_of (constants p.consts)) p.vars ≡ Some vars
  pub of_actions : each (action_of (process_scope ms ns n names)) p.actions ≡ Some actions
  pub is : record { name = p.name.text; inputs = inputs; vars = vars; timers = length p.timers; actions = actions } ≡ q

pub of_process : (ms : List AstMessage) (ns : List (List ℕ)) (n : ℕ) (p : AstProcess) (q : Process) → process_of ms ns n p ≡ Some q → OfProcess ms ns n p q
of_process ms ns n p q e =
    let A : List (Entry Named) → Option (List Action) = λ z. each (action_of (process_scope ms ns n z)) p.actions in
    let V = each (var_of (constants p.consts)) p.vars in
    let I = each (input_of (constants p.consts)) p.inputs in
    let K : List Var → List Var → List Action → Option Process = λ is vs as_. Some (record { name = p.name.text; inputs = is; vars = vs; timers = length p.timers; actions = as_ }) in
    let a = bound (λ z. option_and_then (λ is. option_and_then (λ vs. option_and_then (K is vs) (A z)) V) I) (names_of p) q e in
    let b = bound (λ is. option_and_then (λ vs. option_and_then (K is vs) (A a.0)) V) I q a.2 in
    let c = bound (λ vs. option_and_then (K b.0 vs) (A a.0)) V q b.2 in
    let d = bound (K b.0 c.0) (A a.0) q c.2 in
    let whole : Process = record { name = p.name.text; inputs = b.0; vars = c.0; timers = length p.timers; actions = d.0 } in
    record { names = a.0; inputs = b.0; vars = c.0; actions = d.0; named = a.1; of_inputs = b.1; of_vars = c.1; of_actions = d.1; is = same_Some whole q d.2 }

-- its actions are those that were found
pub process_has : (ms : List AstMessage) (ns : List (List ℕ)) (n : ℕ) (p : AstProcess) (q : Process) (o : OfProcess ms ns n p q) (i : ℕ) (x : Action) → slice_get o.actions i ≡ Some x → slice_get q.actions i ≡ Some x
process_has ms ns n p q o i x h = let F : Process → Type 0 = λ z. slice_get z.actions i ≡ Some x in subst F o.is h

-- ---- one process after the other

pub processes_first : (ms : List AstMessage) (ns : List (List ℕ)) (n : ℕ) (p : AstProcess) (ps : List AstProcess) (qs : List Process) → processes_of ms ns n (p ∷ ps) ≡ Some qs → (r : Process) × (rs : List Process) × (process_of ms ns n p ≡ Some r) × (processes_of ms ns (n + 1) ps ≡ Some rs) × (r ∷ rs ≡ qs)
processes_first ms ns n p ps qs e =
    let a = bound (λ q. option_and_then (λ rest. Some (q ∷ rest)) (processes_of ms ns (n + 1) ps)) (process_of ms ns n p) qs e in
    let b = bound (λ rest. Some (a.0 ∷ rest)) (processes_of ms ns (n + 1) ps) qs a.2 in
    (a.0, b.0, a.1, b.1, same_Some (a.0 ∷ b.0) qs b.2)

pub processes_length : (ms : List AstMessage) (ns : List (List ℕ)) (n : ℕ) (ps : List AstProcess) (qs : List Process) → processes_of ms ns n ps ≡ Some qs → length qs ≡ length ps
processes_length ms ns n [] qs e = ap length (sym (same_Some [] qs e))
processes_length ms ns n (p ∷ ps) qs e =
    let r = processes_first ms ns n p ps qs e in
    ap length (sym r.4) ∙ ap suc (processes_length ms ns (n + 1) ps r.1 r.3)

-- the process at a place
pub processes_there : (ms : List AstMessage) (ns : List (List ℕ)) (n : ℕ) (ps : List AstProcess) (qs : List Process) (k : ℕ) (p : AstProcess) → processes_of ms ns n ps ≡ Some qs → slice_get ps k ≡ Some p → (q : Process) × (slice_get qs k ≡ Some q) × (process_of ms ns (n + k) p ≡ Some q)
processes_there ms ns n [] qs k p e h = absurd (none-some p h)
processes_there ms ns n (x ∷ xs) qs zero p e h =
    let r = processes_first ms ns n x xs qs e in
    let same : n + 0 ≡ n = omega arith in
    (r.0, ap (λ z. slice_get z 0) (sym r.4), ap (λ z. process_of ms ns z p) same ∙ ap (process_of ms ns n) (sym (same_Some x p h)) ∙ r.2)
processes_there ms ns n (x ∷ xs) qs (suc k) p e h =
    let r = processes_first ms ns n x xs qs e in
    let t = processes_there ms ns (n + 1) xs r.1 k p r.3 h in
    let same : n + suc k ≡ n + 1 + k = omega arith in
    (t.0, ap (λ z. slice_get z (suc k)) (sym r.4) ∙ t.1, ap (λ z. process_of ms ns z p) same ∙ t.2)

-- ---- one action

pub record OfAction (c : Scope) (a : AstAction) (x : Action) : Type 0 where
  pub guard : Guard
  pub body : List Stmt
  pub of_guard : guard_of c a.guard ≡ Some guard
  pub of_body : body_of (after_guard c a.guard) a.body ≡ Some body
  pub is : record { guard = guard; body = body; place = a.place } ≡ x

pub of_action : (c : Scope) (a : AstAction) (x : Action) → action_of c a ≡ Some x → OfAction c a x
of_action c a x e =
    let K : Guard → List Stmt → Option Action = λ g b. Some (record { guard = g; body = b; place = a.place }) in
    let g = bound (λ g. option_and_then (K g) (body_of (after_guard c a.guard) a.body)) (guard_of c a.guard) x e in
    let b = bound (K g.0) (body_of (after_guard c a.guard) a.body) x g.2 in
    let whole : Action = record { guard = g.0; body = b.0; place = a.place } in
    record { guard = g.0; body = b.0; of_guard = g.1; of_body = b.1; is = same_Some whole x b.2 }

-- its guard is that which was found
pub action_has : (c : Scope) (a : AstAction) (x : Action) (o : OfAction c a x) (g : Guard) → o.guard ≡ g → x.guard ≡ g
action_has c a x o g h = let F : Action → Type 0 = λ z. z.guard ≡ g in subst F o.is h

-- ---- a receive guard

pub of_receive : (c : Scope) (m q : Ident) (g : Guard) → guard_of c (guard.Receive m q) ≡ Some g → (k : ℕ) × (j : ℕ) × (message_in c m.text ≡ Some k) × (process_in c q.text ≡ Some j) × (when.Receive k j ≡ g)
of_receive c m q g e =
    let a = bound (λ k. option_and_then (λ j. Some (when.Receive k j)) (process_in c q.text)) (message_in c m.text) g e in
    let b = bound (λ j. Some (when.Receive a.0 j)) (process_in c q.text) g a.2 in
    (a.0, b.0, a.1, b.1, same_Some (when.Receive a.0 b.0) g b.2)

-- ---- one of a list that passes a test

pub one_passes : {A : Type 0} (f : A → Bool) (xs : List A) → list_any f xs ≡ true → (i : ℕ) × (x : A) × (slice_get xs i ≡ Some x) × (f x ≡ true)
one_passes {A} f [] h = absurd cc
one_passes {A} f (x ∷ xs) h = by (f x) refl h (λ g. one_passes f xs g)
  where
    by : (b : Bool) → f x ≡ b → (b || list_any f xs) ≡ true → (list_any f xs ≡ true → (i : ℕ) × (y : A) × (slice_get xs i ≡ Some y) × (f y ≡ true)) → (i : ℕ) × (y : A) × (slice_get (x ∷ xs) i ≡ Some y) × (f y ≡ true)
    by true e g k = (0, x, refl, e)
    by false e g k = let r = k g in (suc r.0, r.1, r.2, r.3)
