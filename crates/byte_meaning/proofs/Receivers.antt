-- Who receives what: a system, what a run asks of it, and its wire say the same.
use Rattle.std.proofs.Common.{◌≡◌, ℕ, ◌+◌, map, refl, ap, sym, ◌∙◌, subst, arith}
use Rattle.std.specs.Prelude.{slice_get}
use Rattle.std.specs.Option.{option_map}
use Rattle.std.specs.List.{Contains}
use Rattle.std.proofs.lemmas.Option.{slice_get-map}
use Rattle.tap_base.specs.declared.system.Action.{Action}
use Rattle.tap_base.specs.declared.system.Guard.{Guard}
use Rattle.tap_base.specs.declared.system.Guard.TheVariants as guard
use Rattle.tap_base.specs.declared.system.System.{System}
use Rattle.tap_base.specs.declared.wire.Receive.{Receive}
use Rattle.tap_base.specs.Option.{◌>>=◌}
use Rattle.tap_base.specs.Receivers.{HasReceiver}
use Rattle.tap_base.specs.Wires.{receive_by, received_by_process, wire_of}
use Rattle.tap_base.proofs.OptionFacts.{bound, mapped}
use Rattle.byte_meaning.specs.Messages.{Receives}
use Rattle.tap_exec.specs.Semantics.{ActionSemantics, ProcessSemantics, action_semantics, guard_semantics, messages_of, process_semantics, receive, semantics_of}
use Rattle.byte_meaning.specs.Laws.{WiresSayTheSame, SystemsSayTheSame}
use Rattle.byte_meaning.specs.Meaning.{HasReceive}
use Rattle.byte_meaning.proofs.Elements.{flat_given, flat_giver, given, giver, itself, no_element, one_element}

-- ---- what a run asks of a system

to_semantics : (system : System) (p m q : ℕ) → HasReceiver system p m q → Receives (semantics_of system) p m q
to_semantics system p m q r = record {
  number = r.number;
  action = action_semantics (messages_of system) r.action;
  there =
      ap (λ o. o >>= λ (x : ProcessSemantics). slice_get x.actions r.number) (slice_get-map (process_semantics (messages_of system)) system.processes p ∙ ap (option_map (process_semantics (messages_of system))) r.there)
      ∙ slice_get-map (action_semantics (messages_of system)) r.process.actions r.number
      ∙ ap (option_map (action_semantics (messages_of system))) r.is;
  guard = ap guard_semantics r.guard;
}

same_guard : (m q : ℕ) (g : Guard) → guard_semantics g ≡ receive m q → g ≡ guard.Receive m q
same_guard m q (guard.Receive n r) h = let a : n ≡ m = cc in let b : r ≡ q = cc in cc
same_guard m q (guard.Local e) h = absurd (cc)
same_guard m q (guard.Timeout t) h = absurd (cc)

from_semantics : (system : System) (p m q : ℕ) → Receives (semantics_of system) p m q → HasReceiver system p m q
from_semantics system p m q r =
    let found = bound (λ (x : ProcessSemantics). slice_get x.actions r.number) (slice_get (semantics_of system).processes p) r.action r.there in
    let process = mapped (process_semantics (messages_of system)) (slice_get system.processes p) found.0 (sym (slice_get-map (process_semantics (messages_of system)) system.processes p) ∙ found.1) in
    let actions : map (action_semantics (messages_of system)) process.0.actions ≡ found.0.actions = ap (λ (x : ProcessSemantics). x.actions) process.2 in
    let action = mapped (action_semantics (messages_of system)) (slice_get process.0.actions r.number) r.action
    (sym (slice_get-map (action_semantics (messages_of system)) process.0.actions r.number) ∙ ap (λ as_. slice_get as_ r.number) actions ∙ found.2) in
    record {
      process = process.0;
      there = process.1;
      number = r.number;
      action = action.0;
      is = action.1;
      guard = same_guard m q action.0.guard (ap (λ (a : ActionSemantics). a.guard) action.2 ∙ r.guard);
    }

pub systems_say_the_same : SystemsSayTheSame
systems_say_the_same system p m q = (to_semantics system p m q, from_semantics system p m q)

-- ---- its wire

abbrev receive_of : ℕ → ℕ → ℕ → Receive
receive_of p m q = record { by = p; from = q; message = m }

received_at : (n p m q : ℕ) (g : Guard) → Contains (receive_by n g) (receive_of p m q) → (n ≡ p) × (g ≡ guard.Receive m q)
received_at n p m q (guard.Receive k r) h =
    let same : receive_of n k r ≡ receive_of p m q = one_element (receive_of n k r) (receive_of p m q) h in
    let number : k ≡ m = ap (λ (x : Receive). x.message) same in
    let peer : r ≡ q = ap (λ (x : Receive). x.from) same in
    (ap (λ (x : Receive). x.by) same, cc)
received_at n p m q (guard.Local e) h = absurd (no_element (receive_of p m q) h)
received_at n p m q (guard.Timeout t) h = absurd (no_element (receive_of p m q) h)

received_here : (p m q : ℕ) (g : Guard) → g ≡ guard.Receive m q → Contains (receive_by p g) (receive_of p m q)
received_here p m q g e = subst (λ h. Contains (receive_by p h) (receive_of p m q)) (sym e) (itself (receive_of p m q) (receive_of p m q) refl)

from_wire : (system : System) (p m q : ℕ) → HasReceive (wire_of system) p m q → HasReceiver system p m q
from_wire system p m q h =
    let process = giver received_by_process 0 system.processes (receive_of p m q) h in
    let action = flat_giver (λ (a : Action). receive_by (0 + process.0) a.guard) process.1.actions (receive_of p m q) process.3 in
    let same = received_at (0 + process.0) p m q action.1.guard action.3 in
    let place : process.0 ≡ p = let e = same.0 in omega arith in
    record {
      process = process.1;
      there = ap (λ k. slice_get system.processes k) (sym place) ∙ process.2;
      number = action.0;
      action = action.1;
      is = action.2;
      guard = same.1;
    }

to_wire : (system : System) (p m q : ℕ) → HasReceiver system p m q → HasReceive (wire_of system) p m q
to_wire system p m q r =
    let place : p ≡ 0 + p = omega arith in
    given received_by_process 0 system.processes (receive_of p m q) p r.process r.there
    (subst (λ n. Contains (received_by_process n r.process) (receive_of p m q)) place
    (flat_given (λ (a : Action). receive_by p a.guard) r.process.actions (receive_of p m q) r.number r.action r.is (received_here p m q r.action.guard r.guard)))

pub wires_say_the_same : WiresSayTheSame
wires_say_the_same system = (refl, λ p m q. (λ h. to_semantics system p m q (from_wire system p m q h), λ r. to_wire system p m q (from_semantics system p m q r)))
