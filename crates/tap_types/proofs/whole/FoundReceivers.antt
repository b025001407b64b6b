-- A send that has a receiver in the tree has it in the system.
use Rattle.std.proofs.Common.{◌≡◌, ℕ, ◌+◌, ◌<◌, true, List, Option, Some, None, map, length, slice_get, refl, ap, sym, ◌∙◌, subst}
use Rattle.std.specs.Prelude.{bytes_eq, option_and_then}
use Rattle.std.specs.Option.{option_map}
use Rattle.std.proofs.lemmas.List.{length-map}
use Rattle.std.proofs.lemmas.Option.{same_Some, slice_get-map}
use Rattle.tap_base.specs.declared.ast.AstAction.{AstAction}
use Rattle.tap_base.specs.declared.ast.AstGuard.{AstGuard}
use Rattle.tap_base.specs.declared.ast.AstGuard.TheVariants as guard
use Rattle.tap_base.specs.declared.ast.AstMessage.{AstMessage}
use Rattle.tap_base.specs.declared.ast.AstProcess.{AstProcess}
use Rattle.tap_base.specs.declared.refusal.RefusalCode.TheVariants.{M3}
use Rattle.tap_base.specs.declared.system.Guard.{Guard}
use Rattle.tap_base.specs.declared.system.Guard.TheVariants as when
use Rattle.tap_base.specs.declared.system.Process.{Process}
use Rattle.tap_base.specs.declared.system.System.{System}
use Rattle.tap_base.specs.Lists.{AreDistinct}
use Rattle.tap_base.proofs.ListFacts.{element_at}
use Rattle.tap_names.specs.declared.named.Named.{Named}
use Rattle.tap_names.specs.Declarations.{process_names}
use Rattle.tap_names.specs.MessageOffences.{message_names}
use Rattle.tap_names.specs.Names.{message_of}
use Rattle.tap_names.specs.Tables.{Entry}
use Rattle.tap_types.specs.ActionOffences.{process_scope}
use Rattle.tap_base.specs.Receivers.{HasReceiver}
use Rattle.tap_types.specs.Scopes.{Scope, message_in, number_of}
use Rattle.tap_types.specs.SendOffences.{is_received, process_called, receives_from, takes_from}
use Rattle.tap_types.specs.Systems.{guard_of, processes_of}
use Rattle.tap_types.proofs.whole.ProcessParts.{action_has, of_action, of_process, of_receive, one_passes, process_has, processes_length, processes_there}
use Rattle.tap_types.proofs.whole.Sendable.{IsMessageOf, Sendable}
use Rattle.tap_base.proofs.GatheredFacts.{each_there}
use Rattle.tap_types.proofs.Positions.{number_named, number_within, same_bytes}
use Rattle.tap_base.proofs.DistinctFacts.{one_place}
use Rattle.tap_base.proofs.OffenceFacts.{both_true, met}

-- the number of a message names it in the tree and in the system
message_there : (c : Scope) (system : System) (m : List ℕ) (k : ℕ) → system.messages ≡ map message_of c.messages → message_in c m ≡ Some k → IsMessageOf c system k
message_there c system m k s e =
    let within : k < length c.messages = subst (λ z. k < z) (length-map c.messages (λ (x : AstMessage). x.name.text)) (number_within m (message_names c.messages) k e) in
    let a = element_at c.messages k within in
    record {
      message = a.0;
      told = a.1;
      named = ap (λ z. slice_get z k) s ∙ slice_get-map message_of c.messages k ∙ ap (option_map message_of) a.1;
    }

-- a guard that receives the message from the sender names both
receive_guard : (c : Scope) (sender message : List ℕ) (g : AstGuard) (x : Guard) (p k : ℕ) → takes_from sender message g ≡ true → guard_of c g ≡ Some x → AreDistinct c.processes → slice_get c.processes p ≡ Some sender → message_in c message ≡ Some k → x ≡ when.Receive k p
receive_guard c sender message (guard.Local a) x p k t e d s n = absurd cc
receive_guard c sender message (guard.Timeout a) x p k t e d s n = absurd cc
receive_guard c sender message (guard.Receive m q) x p k t e d s n =
    let b = both_true (bytes_eq m.text message) (bytes_eq q.text sender) t in
    let same_message : m.text ≡ message = same_bytes m.text message b.0 in
    let same_sender : q.text ≡ sender = same_bytes q.text sender b.1 in
    let r = of_receive c m q x e in
    let one : r.0 ≡ k = same_Some r.0 k (sym r.2 ∙ ap (message_in c) same_message ∙ n) in
    let at : slice_get c.processes r.1 ≡ Some sender = number_named q.text c.processes r.1 r.3 ∙ ap (λ z. Some z) same_sender in
    let other : r.1 ≡ p = one_place sender c.processes r.1 p d at s in
    sym r.4 ∙ ap (λ z. when.Receive z r.1) one ∙ ap (λ z. when.Receive k z) other

module _ (ms : List AstMessage) (ps : List AstProcess) (qs : List Process) (e : processes_of ms (process_names ps) 0 ps ≡ Some qs) (d : AreDistinct (process_names ps)) where
  abbrev system : System
  system = record { messages = map message_of ms; processes = qs }

  -- a process that receives it in the tree does so in the system
  receiver_at : (sender message : List ℕ) (p k j : ℕ) (o : Option AstProcess) → slice_get (process_names ps) p ≡ Some sender → number_of message (message_names ms) ≡ Some k → slice_get ps j ≡ o → receives_from sender message o ≡ true → HasReceiver system j k p
  receiver_at sender message p k j None s n is r = absurd cc
  receiver_at sender message p k j (Some a) s n is r =
      let one = one_passes (λ (z : AstAction). takes_from sender message z.guard) a.actions r in
      let t = processes_there ms (process_names ps) 0 ps qs j a e is in
      let parts = of_process ms (process_names ps) (0 + j) a t.0 t.2 in
      let c = process_scope ms (process_names ps) (0 + j) parts.names in
      let x = each_there _ a.actions parts.actions one.0 one.1 parts.of_actions one.2 in
      let made = of_action c one.1 x.0 x.2 in
      let is_guard : made.guard ≡ when.Receive k p = receive_guard c sender message one.1.guard made.guard p k one.3 made.of_guard d s n in
      record {
        process = t.0;
        there = t.1;
        number = one.0;
        action = x.0;
        is = process_has ms (process_names ps) (0 + j) a t.0 parts one.0 x.0 x.1;
        guard = action_has c one.1 x.0 made (when.Receive k p) is_guard;
      }

  called : (name : List ℕ) (j : ℕ) → number_of name (process_names ps) ≡ Some j → process_called ps name ≡ slice_get ps j
  called name j n = ap (λ (z : Option ℕ). option_and_then (λ i. slice_get ps i) z) n

  -- What sends of the process p may name, whatever it receives.
  pub sendable : (p : ℕ) (sender : List ℕ) (names : List (Entry Named)) → slice_get (process_names ps) p ≡ Some sender → Sendable (process_scope ms (process_names ps) p names) system p (is_received ps sender)
  sendable p sender names s = record {
    me = refl;
    messages = λ m k n. message_there (process_scope ms (process_names ps) p names) system m k refl n;
    peers = λ q j n. subst (λ z. j < z) (length-map ps (λ (x : AstProcess). x.name.text) ∙ sym (processes_length ms (process_names ps) 0 ps qs e)) (number_within q (process_names ps) j n);
    receivers = λ m q k j n i u.
        let yes : receives_from sender m.text (process_called ps q.text) ≡ true = met (is_received ps sender m.text q.text) M3 m.place u in
        let there : receives_from sender m.text (slice_get ps j) ≡ true = subst (λ z. receives_from sender m.text z ≡ true) (called q.text j i) yes in
        receiver_at sender m.text p k j (slice_get ps j) s n refl there;
  }
