use Rattle.std.proofs.Common.{◌≡◌, length, arith, sym, ◌∙◌, ap, subst, List, [], ◌++◌, map, Some}
use Rattle.std.specs.Option.{option_map}
use Rattle.tap_base.specs.declared.refusal.Refusal.{Refusal}
use Rattle.tap_base.specs.declared.system.Message.{Message}
use Rattle.tap_base.specs.declared.system.Process.{Process}
use Rattle.tap_base.specs.declared.system.System.{System}
use Rattle.tap_names.specs.declared.fault.TypeFault.TheVariants as fault
use Rattle.tap_types.specs.ActionOffences.{process_uses, use_offences}
use Rattle.tap_names.specs.Declarations.{declaration_offences, process_names, processes_offences}
use Rattle.tap_names.specs.MessageOffences.{message_names, messages_offences}
use Rattle.tap_base.specs.ListWords.{behind, by_number, first}
use Rattle.tap_types.specs.Offences.{offences_of}
use Rattle.tap_names.specs.Processes.{judged_process}
use Rattle.tap_names.specs.Refusals.{Faults}
use Rattle.tap_types.specs.SendOffences.{unreceived_sends}
use Rattle.tap_names.specs.Names.{message_of}
use Rattle.tap_types.specs.Systems.{processes_of, system_of, tree_of}
use Rattle.tap_names.specs.Tables.{entries_of, names_in}
use Rattle.std.proofs.lemmas.List.{length-map}
use Rattle.tap_types.proofs.whole.ProcessParts.{processes_length}
use Rattle.tap_names.proofs.Faults.{front, back}
use Rattle.tap_base.proofs.ListFacts.{none_both}
use Rattle.tap_names.proofs.Loops.{passed}
use Rattle.tap_base.specs.Wires.{receives_of}
use Rattle.tap_types.specs.inner.Receiving.{HoldsEach}
use Rattle.tap_types.proofs.FieldTables.{all_fields}
use Rattle.tap_types.proofs.Received.{all_told}
use Rattle.tap_types.proofs.resolved.resolve_parts.Goals as goal

pub returns-in_err-of_messages-clause-judged : goal.returns-in_err-of_messages-clause-judged
returns-in_err-of_messages-clause-judged c =
    let ms = c.args.messages.now in
    let ps = c.args.processes.now in
    let tree = tree_of ms ps in
    let e = c.in_err-of_messages.field-0.0 in
    passed (offences_of tree) (system_of tree) _ _ c.from_residual.ensures.1
    (front (declaration_offences tree ++ use_offences tree) (unreceived_sends tree) e (front (declaration_offences tree) (use_offences tree) e (front (messages_offences ms) (processes_offences ms ps) e c.in_err-of_messages.ensures)))

pub returns-in_err-typed-clause-judged : goal.returns-in_err-typed-clause-judged
returns-in_err-typed-clause-judged c =
    let ms = c.args.messages.now in
    let ps = c.args.processes.now in
    let tree = tree_of ms ps in
    let D = c.in_ok-of_messages.ensures in
    let N = names_in (entries_of c.in_ok-of_messages.of_messages.table) in
    let n : N ≡ message_names ms = D.1 in
    let E = c.in_ok-of_processes.ensures in
    let d : processes_offences ms ps ≡ [] = sym (ap (λ z. behind (judged_process z) [] ps) n) ∙ E.0 in
    let Q = names_in (entries_of c.in_ok-of_processes.of_processes.table) in
    let q : Q ≡ process_names ps = E.1 in
    let e = c.in_err-typed.field-0.0 in
    let G : List Refusal → Type 0 = λ z. Faults z e in
    let F = subst G (ap (λ z. by_number 0 (process_uses ms z) ps) q) c.in_err-typed.ensures in
    passed (offences_of tree) (system_of tree) _ _ c.from_residual-in_err-typed.ensures.1
    (front (declaration_offences tree ++ use_offences tree) (unreceived_sends tree) e (back (declaration_offences tree) (use_offences tree) e (none_both (messages_offences ms) (processes_offences ms ps) D.0 d) F))

pub returns-in_err-check_sends-clause-judged : goal.returns-in_err-check_sends-clause-judged
returns-in_err-check_sends-clause-judged c =
    let ms = c.args.messages.now in
    let ps = c.args.processes.now in
    let tree = tree_of ms ps in
    let D = c.in_ok-of_messages.ensures in
    let N = names_in (entries_of c.in_ok-of_messages.of_messages.table) in
    let n : N ≡ message_names ms = D.1 in
    let E = c.in_ok-of_processes.ensures in
    let d : processes_offences ms ps ≡ [] = sym (ap (λ z. behind (judged_process z) [] ps) n) ∙ E.0 in
    let Q = names_in (entries_of c.in_ok-of_processes.of_processes.table) in
    let q : Q ≡ process_names ps = E.1 in
    let u : use_offences tree ≡ [] = sym (ap (λ z. by_number 0 (process_uses ms z) ps) q) ∙ c.in_ok-typed.ensures.0 in
    let o : processes_of ms (process_names ps) 0 ps ≡ Some c.in_ok-typed.typed = sym (ap (λ z. processes_of ms z 0 ps) q) ∙ c.in_ok-typed.ensures.1 in
    let H : List Process → Type 0 = λ z. HoldsEach (receives_of z) c.in_ok-numbers_of.field-0 in
    let h = subst H c.as_slice-2.ensures c.in_ok-numbers_of.ensures in
    let r = c.in_err-check_sends.field-0.0 in
    let F : List Refusal → Type 0 = λ z. first z ≡ Some r in
    let f = subst F (all_told ms ps c.in_ok-typed.typed o c.in_ok-of_messages.of_messages.table c.in_ok-of_processes.of_processes.table c.in_ok-numbers_of.field-0 n q h) c.in_err-check_sends.ensures in
    passed (offences_of tree) (system_of tree) _ (fault.Refused r) c.from_residual-in_err-check_sends.ensures.1
    (back (declaration_offences tree ++ use_offences tree) (unreceived_sends tree) (fault.Refused r) (none_both (declaration_offences tree) (use_offences tree) (none_both (messages_offences ms) (processes_offences ms ps) D.0 d) u) f)

pub returns-clause-judged : goal.returns-clause-judged
returns-clause-judged c =
    let ms = c.args.messages.now in
    let ps = c.args.processes.now in
    let tree = tree_of ms ps in
    let D = c.in_ok-of_messages.ensures in
    let N = names_in (entries_of c.in_ok-of_messages.of_messages.table) in
    let n : N ≡ message_names ms = D.1 in
    let E = c.in_ok-of_processes.ensures in
    let d : processes_offences ms ps ≡ [] = sym (ap (λ z. behind (judged_process z) [] ps) n) ∙ E.0 in
    let Q = names_in (entries_of c.in_ok-of_processes.of_processes.table) in
    let q : Q ≡ process_names ps = E.1 in
    let u : use_offences tree ≡ [] = sym (ap (λ z. by_number 0 (process_uses ms z) ps) q) ∙ c.in_ok-typed.ensures.0 in
    let S : List Message → List Process → System = λ a b. record { messages = a; processes = b } in
    let o : processes_of ms (process_names ps) 0 ps ≡ Some c.in_ok-typed.typed = sym (ap (λ z. processes_of ms z 0 ps) q) ∙ c.in_ok-typed.ensures.1 in
    let H : List Process → Type 0 = λ z. HoldsEach (receives_of z) c.in_ok-numbers_of.field-0 in
    let h = subst H c.as_slice-2.ensures c.in_ok-numbers_of.ensures in
    let f = sym (all_told ms ps c.in_ok-typed.typed o c.in_ok-of_messages.of_messages.table c.in_ok-of_processes.of_processes.table c.in_ok-numbers_of.field-0 n q h) ∙ c.in_ok-check_sends.ensures in (
      none_both (declaration_offences tree ++ use_offences tree) (unreceived_sends tree) (none_both (declaration_offences tree) (use_offences tree) (none_both (messages_offences ms) (processes_offences ms ps) D.0 d) u) f,
      ap (option_map (S (map message_of ms))) o ∙ ap (λ z. Some (S z c.in_ok-typed.typed)) (sym D.2),
    )

pub returns-clause-few : goal.returns-clause-few
returns-clause-few c =
    let ms = c.args.messages.now in
    let ps = c.args.processes.now in
    let D = c.in_ok-of_messages.ensures in
    let E = c.in_ok-of_processes.ensures in
    let m : length c.in_ok-of_messages.of_messages.messages ≡ length ms = ap length D.2 ∙ length-map ms message_of in
    let p = processes_length ms (names_in (entries_of c.in_ok-of_processes.of_processes.table)) 0 ps c.in_ok-typed.typed c.in_ok-typed.ensures.1 in
    (omega (arith, m, D.3), omega (arith, p, E.3))

pub numbers_of-requires : goal.numbers_of-requires
numbers_of-requires c =
    let E = c.in_ok-of_processes.ensures in
    let p = processes_length c.args.messages.now (names_in (entries_of c.in_ok-of_processes.of_processes.table)) 0 c.args.processes.now c.in_ok-typed.typed c.in_ok-typed.ensures.1 in
    let l = ap length c.as_slice-2.ensures in
    omega (arith, l, p, E.3)

pub field_tables-requires : goal.field_tables-requires
field_tables-requires c = all_fields [] c.args.messages.now c.in_ok-of_messages.ensures.0
