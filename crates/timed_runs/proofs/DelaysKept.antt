-- The delay law, from the opening state of a run.
use Rattle.std.proofs.Common.{◌≡◌, ℕ, zero, suc, List, replicate, refl, ap, sym, subst, ◌∙◌, slice_get, Option, Some, None}
use Rattle.std.proofs.lemmas.Option.{option_and_then_some, slice_get-map}
use Rattle.tap_base.specs.declared.system.Inputs.{Inputs}
use Rattle.tap_base.specs.declared.system.System.{System}
use Rattle.tap_base.specs.declared.wire.WireField.{WireField}
use Rattle.tap_base.proofs.OptionFacts.{mapped}
use Rattle.abstract_run.specs.declared.label.Label.{Label}
use Rattle.tap_exec.specs.declared.running.TimerState.{TimerState}
use Rattle.tap_exec.specs.declared.running.TimerState.TheVariants as timer
use Rattle.timed_runs.specs.Delays.{BodiesMakeNoneDue, DelayLaw, SystemsKeepDelays, timer_of}
use Rattle.tap_exec.specs.Semantics.{Semantics, ActionSemantics, ProcessSemantics, action_semantics, messages_of, process_semantics, semantics_of}
use Rattle.abstract_run.specs.Opening.{opening_state}
use Rattle.timed_runs.proofs.Known.{keeps}
use Rattle.timed_runs.proofs.Since.{Known}
use Rattle.timed_runs.proofs.Undue.{execution_undue}

-- ---- bodies of a system

pub system_bodies : (system : System) → BodiesMakeNoneDue (semantics_of system)
system_bodies system p a action there inputs received r after ran =
    option_and_then_some (λ (q : ProcessSemantics). slice_get q.actions a) (slice_get (semantics_of system).processes p) action there (λ process is stands.
    let q = mapped (process_semantics messages) (slice_get system.processes p) process (sym (slice_get-map (process_semantics messages) system.processes p) ∙ is) in
    let here = subst (λ (m : ProcessSemantics). slice_get m.actions a ≡ Some action) (sym q.2) stands in
    let x = mapped (action_semantics messages) (slice_get q.0.actions a) action (sym (slice_get-map (action_semantics messages) q.0.actions a) ∙ here) in
    execution_undue messages inputs received x.0.body r after (ap (λ (m : ActionSemantics). m.body inputs received r) x.2 ∙ ran)) where
      messages : List (List WireField)
      messages = messages_of system

-- ---- the opening state

all_off : (n t : ℕ) (x : TimerState) → slice_get (replicate n timer.Off) t ≡ Some x → x ≡ timer.Off
all_off zero t x e = cc
all_off (suc n) zero x e = cc
all_off (suc n) (suc t) x e = all_off n t x e

opened_off : (semantics : Semantics) (inputs : Inputs) (p t : ℕ) (x : TimerState) → timer_of p t (opening_state semantics inputs) ≡ Some x → x ≡ timer.Off
opened_off semantics inputs p t x e =
    let f = λ (q : ProcessSemantics). replicate q.timers timer.Off in
    option_and_then_some _ (slice_get (opening_state semantics inputs).timers p) x e (λ timers there is.
    let q = mapped f (slice_get semantics.processes p) timers (sym (slice_get-map f semantics.processes p) ∙ there) in
    all_off q.0.timers t x (ap (λ ts. slice_get ts t) q.2 ∙ is))

opens : (semantics : Semantics) (inputs : Inputs) (labels : List Label) (p t : ℕ) → Known semantics (opening_state semantics inputs) labels p t 0 (opening_state semantics inputs) (timer_of p t (opening_state semantics inputs))
opens semantics inputs labels p t = by_timer (timer_of p t (opening_state semantics inputs)) (opened_off semantics inputs p t) where
  by_timer : (o : Option TimerState) → ((x : TimerState) → o ≡ Some x → x ≡ timer.Off) → Known semantics (opening_state semantics inputs) labels p t 0 (opening_state semantics inputs) o
  by_timer None h = tt
  by_timer (Some timer.Off) h = tt
  by_timer (Some (timer.Armed delay)) h = let no : timer.Armed delay ≡ timer.Off = h (timer.Armed delay) refl in cc
  by_timer (Some (timer.Due at)) h = let no : timer.Due at ≡ timer.Off = h (timer.Due at) refl in cc

-- ---- the law

pub delays_kept : DelayLaw
delays_kept semantics bodies inputs labels last run p t k x = keeps semantics (opening_state semantics inputs) labels p t last k bodies run (opens semantics inputs labels p t) x

pub systems_keep : SystemsKeepDelays
systems_keep system = delays_kept (semantics_of system) (system_bodies system)
