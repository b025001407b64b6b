-- A resolved system has messages that can be asked for a layout.
use Rattle.std.proofs.Common.{◌≡◌, ◌<◌, ◌≤◌, ◌+◌, ◌^◌, ℕ, List, [], ◌∷◌, length, sym, subst, arith}
use Rattle.std.proofs.lemmas.List.{length-map}
use Rattle.tap_base.specs.declared.system.Action.{Action}
use Rattle.tap_base.specs.declared.system.Field.{Field}
use Rattle.tap_base.specs.declared.system.Guard.{Guard}
use Rattle.tap_base.specs.declared.system.Guard.TheVariants as guard
use Rattle.tap_base.specs.declared.system.Message.{Message}
use Rattle.tap_base.specs.declared.system.Process.{Process}
use Rattle.tap_base.specs.declared.system.System.{System}
use Rattle.tap_base.specs.declared.wire.Receive.{Receive}
use Rattle.tap_base.specs.Lists.{Each, EachFrom}
use Rattle.tap_base.specs.ListWords.{by_number}
use Rattle.tap_base.specs.Resolved.{IsField as IsResolvedField, IsMessage, IsResolved, IsResolvedAction, IsResolvedGuard, IsResolvedProcess}
use Rattle.tap_base.specs.Wires.{receive_by, received_by_process, wire_field, wire_message, wire_of}
use Rattle.tap_base.proofs.ListFacts.{each_append, each_flat_of, each_map}
use Rattle.message_layout.specs.Wires.{IsField, IsWire}

-- ---- messages

of_field : (f : Field) → IsResolvedField f → IsField (wire_field f)
of_field f h = let some = h.0 in let few = h.1 in record { some_bits = omega (arith, some); few_bits = omega (arith, few); fixed = h.2 }

of_message : (m : Message) → IsMessage m → Each IsField (wire_message m)
of_message m h = each_map IsResolvedField IsField wire_field m.fields of_field h.1

same_count : (system : System) → length (wire_of system).messages ≡ length system.messages
same_count system = length-map system.messages wire_message

few_messages : (n most : ℕ) → n ≤ most → most ≤ 256 → n < 2 ^ 32
few_messages n most h k = omega (arith, h, k)

-- ---- what is received

-- it is a message of the system
abbrev IsOf : System → Receive → Type 0
IsOf system r = r.message < length (wire_of system).messages

of_guard : (system : System) (p : ℕ) (process : Process) (g : Guard) → IsResolvedGuard system p process g → Each (IsOf system) (receive_by p g)
of_guard system p process (guard.Receive m q) h = (subst (λ n. m < n) (sym (same_count system)) h.0, tt)
of_guard system p process (guard.Local e) h = tt
of_guard system p process (guard.Timeout t) h = tt

of_process : (system : System) (p : ℕ) (process : Process) → IsResolvedProcess system p process → Each (IsOf system) (received_by_process p process)
of_process system p process h =
    each_flat_of (IsResolvedAction system p process) (IsOf system) (λ (a : Action). receive_by p a.guard) process.actions (λ a k. of_guard system p process a.guard k.guard) h.actions

each_numbered : {A B : Type 0} (Q : ℕ → A → Type 0) (P : B → Type 0) (f : ℕ → A → List B) → ((n : ℕ) (x : A) → Q n x → Each P (f n x)) → (n : ℕ) (xs : List A) → EachFrom n Q xs → Each P (by_number n f xs)
each_numbered Q P f g n [] h = tt
each_numbered Q P f g n (x ∷ xs) h = each_append P (f n x) (by_number (n + 1) f xs) (g n x h.0) (each_numbered Q P f g (n + 1) xs h.1)

pub resolved_wire : (system : System) → IsResolved system → IsWire (wire_of system)
resolved_wire system h = record {
  few = few_messages (length (wire_of system).messages) (length system.messages) (let e = same_count system in omega (arith, e)) h.few_messages;
  fields = each_map IsMessage (λ fields. Each IsField fields) wire_message system.messages of_message h.messages;
  received = each_numbered (IsResolvedProcess system) (IsOf system) received_by_process (of_process system) 0 system.processes h.processes;
}
