-- Names of a tree that stay in its system.
use Rattle.std.proofs.Common.{◌≡◌, ℕ, ◌+◌, refl, sym, ◌∙◌, ap, List, [], ◌∷◌, Some, map}
use Rattle.std.proofs.lemmas.Option.{same_Some}
use Rattle.tap_base.proofs.OptionFacts.{option_map_some}
use Rattle.tap_base.specs.declared.ast.AstMessage.{AstMessage}
use Rattle.tap_base.specs.declared.ast.AstProcess.{AstProcess}
use Rattle.tap_base.specs.declared.system.Message.{Message}
use Rattle.tap_base.specs.declared.system.Process.{Process}
use Rattle.tap_base.specs.declared.system.System.{System}
use Rattle.tap_names.specs.MessageOffences.{message_names}
use Rattle.tap_names.specs.Declarations.{process_names}
use Rattle.tap_types.specs.Laws.{KeepsNames}
use Rattle.tap_types.specs.Systems.{processes_of}
use Rattle.tap_names.specs.Names.{message_of}
use Rattle.tap_types.proofs.whole.ProcessParts.{of_process, processes_first}

pub message_kept : (ms : List AstMessage) → map (λ (m : Message). m.name) (map message_of ms) ≡ message_names ms
message_kept [] = refl
message_kept (m ∷ ms) = ap (λ z. m.name.text ∷ z) (message_kept ms)

pub processes_kept : (messages : List AstMessage) (names : List (List ℕ)) (n : ℕ) (ps : List AstProcess) (qs : List Process) → processes_of messages names n ps ≡ Some qs → map (λ (p : Process). p.name) qs ≡ process_names ps
processes_kept messages names n [] qs e = ap (map (λ (p : Process). p.name)) (sym (same_Some [] qs e))
processes_kept messages names n (p ∷ ps) qs e =
    let r = processes_first messages names n p ps qs e in
    let parts = of_process messages names n p r.0 r.2 in
    ap (map (λ (q : Process). q.name)) (sym r.4) ∙ ap (λ (q : Process). q.name ∷ map (λ (q : Process). q.name) r.1) (sym parts.is) ∙ ap (λ z. p.name.text ∷ z) (processes_kept messages names (n + 1) ps r.1 r.3)

pub kept : KeepsNames
kept tree s e =
    let S : List Process → System = λ z. record { messages = map message_of tree.messages; processes = z } in
    option_map_some S (processes_of tree.messages (process_names tree.processes) 0 tree.processes) s e
    (λ qs r t. (ap (λ (z : System). map (λ (m : Message). m.name) z.messages) (sym t) ∙ message_kept tree.messages, ap (λ (z : System). map (λ (p : Process). p.name) z.processes) (sym t) ∙ processes_kept tree.messages (process_names tree.processes) 0 tree.processes qs r))
