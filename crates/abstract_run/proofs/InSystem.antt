-- What the code finds in a system is what 64-bit numbers compute of it.
use Rattle.std.proofs.Common.{◌≡◌, ◌&&◌, ℕ, ℤ, Bool, false, not, List, [], ◌∷◌, map, refl, ap, sym, ◌∙◌, slice_get, Option, Some, None, option_and_then}
use Rattle.std.specs.List.{list_any}
use Rattle.std.specs.Option.{option_map}
use Rattle.std.proofs.lemmas.Option.{slice_get-map}
use Rattle.tap_base.specs.declared.system.Action.{Action}
use Rattle.tap_base.specs.declared.system.Process.{Process}
use Rattle.tap_base.specs.declared.system.System.{System}
use Rattle.tap_base.specs.declared.wire.WireField.{WireField}
use Rattle.tap_base.specs.Option.{◌>>=◌, is_yes}
use Rattle.abstract_run.specs.declared.state.State.{State}
use Rattle.abstract_run.specs.inner.Among.{any_waiting}
use Rattle.abstract_run.specs.inner.ByChoices.{stands_at}
use Rattle.abstract_run.specs.inner.ComputedSemantics.{computed_action, computed_guard, computed_process, computed_semantics}
use Rattle.abstract_run.specs.Channels.{error_waits}
use Rattle.abstract_run.specs.Enabled.{any_enabled, guard_holds, is_ready}
use Rattle.abstract_run.specs.Fits.{Fits}
use Rattle.abstract_run.specs.Safe.{IsComputed}
use Rattle.tap_exec.specs.Semantics.{ProcessSemantics, action_at, messages_of, semantics_of}
use Rattle.abstract_run.specs.Step.{acted, any_pressing, is_idle, is_live, is_pressing, is_receive}
use Rattle.abstract_run.proofs.Acted.{acted_at, acted_is, acted_none}
use Rattle.abstract_run.proofs.Idle.{idle_by_marks}
use Rattle.abstract_run.proofs.SameSteps.{same_any_enabled}

-- ---- one action

at_computed : (system : System) (p a : ℕ) → action_at (computed_semantics system) p a ≡ option_map (computed_action (messages_of system)) (stands_at system p a)
at_computed system p a =
    ap (λ o. o >>= λ (q : ProcessSemantics). slice_get q.actions a) (slice_get-map (computed_process (messages_of system)) system.processes p) ∙ by_process (slice_get system.processes p) where
      by_process : (o : Option Process) → (option_map (computed_process (messages_of system)) o >>= λ (q : ProcessSemantics). slice_get q.actions a)
          ≡ option_map (computed_action (messages_of system)) (option_and_then (λ (q : Process). slice_get q.actions a) o)
      by_process None = refl
      by_process (Some q) = slice_get-map (computed_action (messages_of system)) q.actions a

pub acted_some : (system : System) (s : State) (p a : ℕ) (action : Action) (choices : List ℤ) → stands_at system p a ≡ Some action
    → acted_at s p (computed_action (messages_of system) action) choices ≡ acted (computed_semantics system) s p a choices
acted_some system s p a action choices is =
    sym (acted_is (computed_semantics system) s p a choices (computed_action (messages_of system) action) (at_computed system p a ∙ ap (option_map (computed_action (messages_of system))) is))

pub acted_nowhere : (system : System) (s : State) (p a : ℕ) (choices : List ℤ) → stands_at system p a ≡ None → acted (computed_semantics system) s p a choices ≡ None
acted_nowhere system s p a choices is = acted_none (computed_semantics system) s p a choices (at_computed system p a ∙ ap (option_map (computed_action (messages_of system))) is)

-- ---- all actions of a process

ready_by_guards : (messages : List (List WireField)) (s : State) (p : ℕ) (as_ : List Action)
    → list_any (is_ready s p) (map (computed_action messages) as_) ≡ list_any (λ (a : Action). is_yes (guard_holds s p (computed_guard a.guard))) as_
ready_by_guards messages s p [] = refl
ready_by_guards messages s p (a ∷ as_) = let more = ready_by_guards messages s p as_ in rw more refl

-- whether an action is ready, where there is such a process
abbrev AnyReady : State → ℕ → Option ProcessSemantics → Bool
AnyReady s p o = is_yes (option_map (λ (q : ProcessSemantics). list_any (is_ready s p) q.actions) o)

pub any_enabled_some : (system : System) (s : State) (p : ℕ) (process : Process) → slice_get system.processes p ≡ Some process
    → any_enabled (computed_semantics system) s p ≡ list_any (λ (a : Action). is_yes (guard_holds s p (computed_guard a.guard))) process.actions
any_enabled_some system s p process is =
    ap (AnyReady s p) (slice_get-map (computed_process (messages_of system)) system.processes p ∙ ap (option_map (computed_process (messages_of system))) is)
    ∙ ready_by_guards (messages_of system) s p process.actions

pub any_enabled_none : (system : System) (s : State) (p : ℕ) → slice_get system.processes p ≡ None → any_enabled (computed_semantics system) s p ≡ false
any_enabled_none system s p is = ap (AnyReady s p) (slice_get-map (computed_process (messages_of system)) system.processes p ∙ ap (option_map (computed_process (messages_of system))) is)

-- ---- actions that receive nothing

-- an action that receives nothing is ready, as the code finds it
abbrev pub any_pressing_in : State → ℕ → List Action → Bool
any_pressing_in s p as_ = list_any (λ (a : Action). not (is_receive (computed_guard a.guard)) && is_yes (guard_holds s p (computed_guard a.guard))) as_

pressing_by_guards : (messages : List (List WireField)) (s : State) (p : ℕ) (as_ : List Action)
    → list_any (is_pressing s p) (map (computed_action messages) as_) ≡ any_pressing_in s p as_
pressing_by_guards messages s p [] = refl
pressing_by_guards messages s p (a ∷ as_) = let more = pressing_by_guards messages s p as_ in rw more refl

abbrev AnyPressing : State → ℕ → Option ProcessSemantics → Bool
AnyPressing s p o = is_yes (option_map (λ (q : ProcessSemantics). list_any (is_pressing s p) q.actions) o)

pub any_pressing_some : (system : System) (s : State) (p : ℕ) (process : Process) → slice_get system.processes p ≡ Some process
    → any_pressing (computed_semantics system) s p ≡ any_pressing_in s p process.actions
any_pressing_some system s p process is =
    ap (AnyPressing s p) (slice_get-map (computed_process (messages_of system)) system.processes p ∙ ap (option_map (computed_process (messages_of system))) is)
    ∙ pressing_by_guards (messages_of system) s p process.actions

pub any_pressing_none : (system : System) (s : State) (p : ℕ) → slice_get system.processes p ≡ None → any_pressing (computed_semantics system) s p ≡ false
any_pressing_none system s p is = ap (AnyPressing s p) (slice_get-map (computed_process (messages_of system)) system.processes p ∙ ap (option_map (computed_process (messages_of system))) is)

-- ---- an idle turn

pub idle_computed : (system : System) (s : State) (p : ℕ) → IsComputed system → Fits (semantics_of system) s
    → (is_live s p && not (any_enabled (computed_semantics system) s p) && not (any_waiting s p)) ≡ is_idle (computed_semantics system) s p
idle_computed system s p computed fits =
    let same = same_any_enabled (computed_semantics system) (semantics_of system) s p computed fits in
    ap (λ b. is_live s p && not b && not (any_waiting s p)) same
    ∙ idle_by_marks (semantics_of system) s p fits
    ∙ ap (λ b. is_live s p && not b && not (error_waits s.channels p)) (sym same)
