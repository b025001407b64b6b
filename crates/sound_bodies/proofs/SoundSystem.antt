-- Every resolved system that is judged right is sound.
use Rattle.std.proofs.Common.{◌≡◌, ◌≤◌, ◌+◌, ℕ, suc, ℤ, List, [], ◌∷◌, map, length, replicate, refl, ap, sym, subst, ◌∙◌, slice_get, Some, arith}
use Rattle.std.specs.Prelude.{IfSome}
use Rattle.std.proofs.lemmas.List.{length-append, length-map, length-replicate}
use Rattle.std.proofs.lemmas.Option.{slice_get-map}
use Rattle.tap_base.specs.declared.system.Action.{Action}
use Rattle.tap_base.specs.declared.system.Guard.{Guard}
use Rattle.tap_base.specs.declared.system.Guard.TheVariants as guard
use Rattle.tap_base.specs.declared.system.Process.{Process}
use Rattle.tap_base.specs.declared.system.System.{System}
use Rattle.tap_base.specs.declared.system.Var.{Var}
use Rattle.tap_base.specs.Interval.{IsIn}
use Rattle.tap_base.specs.Lists.{Each, EachBoth, EachFrom}
use Rattle.tap_base.specs.Parts.{all_deeds}
use Rattle.tap_base.specs.Ranges.{AreAllIn, ranges_of}
use Rattle.tap_base.specs.Resolved.{IsResolved, IsResolvedAction, IsResolvedGuard, IsResolvedProcess, IsOrdered, IsVar}
use Rattle.tap_base.specs.Scope.{input_ranges, scope_of}
use Rattle.tap_base.proofs.ListFacts.{each_append, each_at, each_replicate, each_map, each_weaker, numbered_at}
use Rattle.tap_base.proofs.OptionFacts.{mapped}
use Rattle.tap_exec.proofs.Fronts.{all_front}
use Rattle.tap_exec.specs.Running.{Running}
use Rattle.tap_exec.specs.Computed.{computed}
use Rattle.tap_exec.specs.Execution.{exec_all}
use Rattle.abstract_run.specs.inner.ComputedSemantics.{computed_action, computed_guard, computed_process, computed_semantics}
use Rattle.byte_meaning.specs.Messages.{AreReceived}
use Rattle.abstract_run.specs.Safe.{Agrees, BeginsInRange, BodiesKeepRanges, IsBeginning, KeepsRange, SameAction, SameGuard, SameProcess, most_vars, tests, receives, timeouts}
use Rattle.tap_exec.specs.Semantics.{ActionSemantics, InputSemantics, ProcessSemantics, action_semantics, guard_semantics, input_semantics, messages_of, process_semantics, semantics_of}
use Rattle.sound_values.proofs.FieldValues.{received_fit}
use Rattle.sound_values.proofs.Values.{sound}
use Rattle.sound_bodies.specs.Bodies.{BodiesAreSound}
use Rattle.sound_bodies.specs.GoOn.{BodiesGoOn, GoesOn}
use Rattle.sound_bodies.specs.Judged.{IsJudgedAction, IsJudgedGuard, IsJudgedSystem}
use Rattle.tap_base.specs.Sends.{body_sends}
use Rattle.sound_bodies.proofs.Bodies.{DeedRuns, body_runs}
use Rattle.sound_bodies.proofs.Deeds.{all_run}
use Rattle.sound_bodies.proofs.Going.{body_goes_on}
use Rattle.sound_bodies.proofs.Runs.{Leads, Runs}
use Rattle.sound_bodies.proofs.Simple.{exact}

-- ---- it begins within its ranges

one_or_more : (vars : List Var) → Each IsVar vars → length vars ≤ length (ranges_of vars)
one_or_more [] h = omega arith
one_or_more (v ∷ vs) h = let more = one_or_more vs h.1 in let some = h.0.0 in
    omega (arith, more, some, length-append (replicate v.cells v.range) (ranges_of vs), length-replicate v.cells v.range)

abbrev Begun : Process → Type 0
Begun p = (length p.vars ≤ most_vars) × Each (λ (v : Var). IsIn v.initial v.range) p.vars

begun : (system : System) (n : ℕ) (ps : List Process) → EachFrom n (IsResolvedProcess system) ps → Each Begun ps
begun system n [] h = tt
begun system n (p ∷ ps) h =
    ((omega (arith, one_or_more p.vars h.0.vars, h.0.few_cells), each_weaker IsVar (λ (v : Var). IsIn v.initial v.range) p.vars (λ v k. k.2) h.0.vars), begun system (n + 1) ps h.1)

begins : (system : System) → IsResolved system → BeginsInRange (semantics_of system)
begins system ok =
    let says = process_semantics (messages_of system) in
    let all = begun system 0 system.processes ok.processes in
    record {
      few = omega (arith, length-map system.processes says, ok.few_processes);
      few_vars = each_map Begun (λ (q : ProcessSemantics). length q.vars ≤ most_vars) says system.processes (λ p h. h.0) all;
      initials = each_map Begun (λ (q : ProcessSemantics). Each (λ (v : Var). IsIn v.initial v.range) q.vars) says system.processes (λ p h. h.1) all;
    }

pub ranges_ordered : (vars : List Var) → Each IsVar vars → Each IsOrdered (ranges_of vars)
ranges_ordered [] h = tt
ranges_ordered (v ∷ vs) h = each_append IsOrdered (replicate v.cells v.range) (ranges_of vs) (each_replicate IsOrdered v.cells v.range h.0.1) (ranges_ordered vs h.1)

-- ---- by number

mapped_from : {A B : Type 0} (f : A → B) (xs : List A) (k : ℕ) (y : B) → slice_get (map f xs) k ≡ Some y → (x : A) × (slice_get xs k ≡ Some x) × (f x ≡ y)
mapped_from f xs k y h = mapped f (slice_get xs k) y (sym (slice_get-map f xs k) ∙ h)

-- What is so of each action of a system is so of each action of its semantics.
pub each_action : (system : System) (P : ℕ → ProcessSemantics → ActionSemantics → Type 0)
    → ((p a : ℕ) (process : Process) (action : Action) → slice_get system.processes p ≡ Some process → slice_get process.actions a ≡ Some action
    → P p (process_semantics (messages_of system) process) (action_semantics (messages_of system) action))
    → (p a : ℕ) (process : ProcessSemantics) (action : ActionSemantics) → slice_get (semantics_of system).processes p ≡ Some process → slice_get process.actions a ≡ Some action → P p process action
each_action system P f p a process action there is =
    let messages = messages_of system in
    let x = mapped_from (process_semantics messages) system.processes p process there in
    let stands : slice_get (map (action_semantics messages) x.0.actions) a ≡ Some action = subst (λ (q : ProcessSemantics). slice_get q.actions a ≡ Some action) (sym x.2) is in
    let y = mapped_from (action_semantics messages) x.0.actions a action stands in
    subst (λ q. P p q action) x.2 (subst (λ b. P p (process_semantics messages x.0) b) y.2 (f p a x.0 y.0 x.1 y.1))

given_ranges : (inputs : List Var) → map (λ (i : InputSemantics). i.range) (map input_semantics inputs) ≡ input_ranges inputs
given_ranges [] = refl
given_ranges (v ∷ vs) = ap (λ ranges. v.range ∷ ranges) (given_ranges vs)

-- ---- an action

heard : (system : System) (process : Process) (g : Guard) (values : List ℤ) → AreReceived (messages_of system) (guard_semantics g) values → AreAllIn (scope_of system.messages process g).fields values
heard system process (guard.Local e) values h = subst (λ xs. AreAllIn [] xs) (sym h) (record { counted = refl; within = tt })
heard system process (guard.Timeout t) values h = subst (λ xs. AreAllIn [] xs) (sym h) (record { counted = refl; within = tt })
heard system process (guard.Receive m q) values h = received_fit system.messages process m q h.fields values h.declared h.fitting

module _ (system : System) (ok : IsResolved system) (right : IsJudgedSystem system) (p a : ℕ) (process : Process) (action : Action)
    (there : slice_get system.processes p ≡ Some process) (is : slice_get process.actions a ≡ Some action) where
  resolved : IsResolvedAction system p process action
  resolved = each_at (IsResolvedAction system p process) process.actions a action (numbered_at (IsResolvedProcess system) system.processes p process ok.processes there).actions is

  judged : IsJudgedAction system.messages process action
  judged = each_at (IsJudgedAction system.messages process) process.actions a action (each_at (λ (p : Process). Each (IsJudgedAction system.messages p) p.actions) system.processes p process right there) is

  module _ (inputs received : List ℤ) (r : Running) (begin : IsBeginning (semantics_of system) (process_semantics (messages_of system) process) (action_semantics (messages_of system) action) inputs received r) where
    given : AreAllIn (scope_of system.messages process action.guard).inputs inputs
    given = subst (λ ranges. AreAllIn ranges inputs) (given_ranges process.inputs) begin.given

    listens : AreAllIn (scope_of system.messages process action.guard).fields received
    listens = heard system process action.guard received begin.heard

    pub deeds : Each (DeedRuns (semantics_of system) p (process_semantics (messages_of system) process) exact inputs received) (all_deeds action.body)
    deeds =
        all_run system p process action.guard exact inputs received given listens (λ e range h j cells fit. refl) (all_deeds action.body) resolved.body judged.body

    exactly_runs : Runs (semantics_of system) p (process_semantics (messages_of system) process) (body_sends action.body) (exec_all exact (messages_of system) inputs received action.body) (exec_all exact (messages_of system) inputs received action.body) r
    exactly_runs = body_runs (semantics_of system) p (process_semantics (messages_of system) process) exact inputs received action.body deeds r begin.running

    goes_on : GoesOn ((action_semantics (messages_of system) action).body inputs received) r
    goes_on =
        let vars = (numbered_at (IsResolvedProcess system) system.processes p process ok.processes there).vars in
        body_goes_on (semantics_of system) p (process_semantics (messages_of system) process) inputs received (ranges_ordered process.vars vars) action.body deeds r begin.running

    pub computed_deeds : Each (DeedRuns (semantics_of system) p (process_semantics (messages_of system) process) computed inputs received) (all_deeds action.body)
    computed_deeds =
        let s = scope_of system.messages process action.guard in
        all_run system p process action.guard computed inputs received given listens
        (λ e range h j cells fit. (sound s cells inputs received (record { of_cells = fit; of_inputs = given; of_received = listens }) e range h j).computes)
        (all_deeds action.body) resolved.body judged.body

    computed_runs : Runs (semantics_of system) p (process_semantics (messages_of system) process) (body_sends action.body) (exec_all computed (messages_of system) inputs received action.body) (exec_all exact (messages_of system) inputs received action.body) r
    computed_runs = body_runs (semantics_of system) p (process_semantics (messages_of system) process) computed inputs received action.body computed_deeds r begin.running

    kept : (ends : Running) → (action_semantics (messages_of system) action).body inputs received r ≡ Some ends
        → KeepsRange (semantics_of system) p (process_semantics (messages_of system) process) (action_semantics (messages_of system) action) inputs received r ends
    kept ends ran =
        let runs = exactly_runs in
        let l : Leads (semantics_of system) p (process_semantics (messages_of system) process) (body_sends action.body) r ends =
        subst (λ o. IfSome o (Leads (semantics_of system) p (process_semantics (messages_of system) process) (body_sends action.body) r)) ran runs.leads in
        record {
          leads = record { running = l.fit; sends = l.sends; sent = l.sent; few = omega (arith, l.few, judged.few); fitting = l.sound };
          takes = all_front exact (messages_of system) inputs received action.body r ends ran;
        }

keeps : (system : System) → IsResolved system → IsJudgedSystem system → BodiesKeepRanges (semantics_of system)
keeps system ok right =
    each_action system
    (λ p process action. (inputs received : List ℤ) (before ends : Running) → IsBeginning (semantics_of system) process action inputs received before → action.body inputs received before ≡ Some ends
    → KeepsRange (semantics_of system) p process action inputs received before ends)
    (λ p a process action there is inputs received before ends begin ran. kept system ok right p a process action there is inputs received before begin ends ran)

pub bodies_go : BodiesGoOn
bodies_go system p a process action ok right there is inputs received r begin =
    each_action system
    (λ p process action. (inputs received : List ℤ) (r : Running) → IsBeginning (semantics_of system) process action inputs received r → GoesOn (action.body inputs received) r)
    (λ p a process action there is inputs received r begin. goes_on system ok right p a process action there is inputs received r begin)
    p a process action there is inputs received r begin

-- ---- 64-bit numbers compute it

both_mapped : {A B C : Type 0} (R : B → C → Type 0) (f : A → B) (g : A → C) (xs : List A) → ((k : ℕ) (x : A) → slice_get xs k ≡ Some x → R (f x) (g x)) → EachBoth R (map f xs) (map g xs)
both_mapped R f g [] h = tt
both_mapped R f g (x ∷ xs) h = (h 0 x refl, both_mapped R f g xs (λ k. h (suc k)))

guard_same : (system : System) (p : ℕ) (process : Process) (g : Guard) → IsResolvedGuard system p process g → IsJudgedGuard (scope_of system.messages process g) g
    → SameGuard (process_semantics (messages_of system) process) (computed_guard g) (guard_semantics g)
guard_same system p process (guard.Local e) h j = tests (λ cells inputs within given.
    let s = scope_of system.messages process (guard.Local e) in
    let read = subst (λ ranges. AreAllIn ranges inputs) (given_ranges process.inputs) given in
    let valued = (sound s cells inputs [] (record { of_cells = within; of_inputs = read; of_received = record { counted = refl; within = tt } }) e j.0 h j.1).computes in
    rw valued refl)
guard_same system p process (guard.Receive m q) h j = receives
guard_same system p process (guard.Timeout t) h j = timeouts

same_action : (system : System) (ok : IsResolved system) (right : IsJudgedSystem system) (p a : ℕ) (process : Process) (action : Action)
    → slice_get system.processes p ≡ Some process → slice_get process.actions a ≡ Some action
    → SameAction (semantics_of system) (process_semantics (messages_of system) process) (computed_action (messages_of system) action) (action_semantics (messages_of system) action)
same_action system ok right p a process action there is =
    let r = resolved system ok right p a process action there is in
    let j = judged system ok right p a process action there is in
    record {
      guard = guard_same system p process action.guard r.guard j.guard;
      body = λ inputs received before begin. (computed_runs system ok right p a process action there is inputs received before begin).same;
    }

same_process : (system : System) (ok : IsResolved system) (right : IsJudgedSystem system) (p : ℕ) (process : Process) → slice_get system.processes p ≡ Some process
    → SameProcess (semantics_of system) (computed_process (messages_of system) process) (process_semantics (messages_of system) process)
same_process system ok right p process there =
    let machine = computed_action (messages_of system) in
    let value = action_semantics (messages_of system) in
    record {
      name = refl;
      inputs = refl;
      vars = refl;
      timers = refl;
      counted = length-map process.actions machine ∙ sym (length-map process.actions value);
      actions = both_mapped _ machine value process.actions (λ a action is. same_action system ok right p a process action there is);
    }

computes : (system : System) → IsResolved system → IsJudgedSystem system → Agrees (computed_semantics system) (semantics_of system)
computes system ok right =
    let machine = computed_process (messages_of system) in
    let value = process_semantics (messages_of system) in
    record {
      messages = refl;
      counted = length-map system.processes machine ∙ sym (length-map system.processes value);
      processes = both_mapped _ machine value system.processes (λ p process there. same_process system ok right p process there);
    }

pub bodies_sound : BodiesAreSound
bodies_sound system ok right = record { begins = begins system ok; keeps = keeps system ok right; computes = computes system ok right }
