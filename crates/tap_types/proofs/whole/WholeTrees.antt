-- What a tree without an offence names is a resolved system.
use Rattle.std.proofs.Common.{◌≡◌, ℕ, ◌+◌, ◌<◌, ◌≤◌, List, [], ◌∷◌, ◌++◌, Some, map, length, slice_get, refl, ap, sym, ◌∙◌, subst, arith}
use Rattle.std.proofs.lemmas.List.{append_assoc, length-append, length-map}
use Rattle.std.proofs.lemmas.Option.{same_Some}
use Rattle.tap_base.specs.declared.refusal.Refusal.{Refusal}
use Rattle.tap_base.specs.declared.ast.AstMessage.{AstMessage}
use Rattle.tap_base.specs.declared.ast.AstProcess.{AstProcess}
use Rattle.tap_base.specs.declared.system.Message.{Message}
use Rattle.tap_base.specs.declared.system.Process.{Process}
use Rattle.tap_base.specs.declared.system.System.{System}
use Rattle.tap_base.specs.Lists.{AreDistinct, Each, EachFrom}
use Rattle.tap_base.proofs.ListFacts.{each_weaker, none_first, none_second}
use Rattle.tap_base.proofs.OptionFacts.{mapped}
use Rattle.tap_names.specs.declared.named.Named.{Named}
use Rattle.tap_names.specs.Declarations.{declaration_offences, inner_offences, process_names, process_offences, processes_offences}
use Rattle.tap_base.specs.ListWords.{by_number, joined}
use Rattle.tap_names.specs.MessageOffences.{message_names, messages_offences}
use Rattle.tap_names.specs.NameOffences.{count_offences, name_offences}
use Rattle.tap_names.specs.Names.{message_of}
use Rattle.tap_names.specs.Tables.{Entry}
use Rattle.tap_types.specs.ActionOffences.{process_scope, process_uses, use_offences}
use Rattle.tap_types.specs.Given.{ProcessIsGiven}
use Rattle.tap_base.specs.NamesOfSystems.{FieldsAreDistinct, IsShort, MessageIsShort, ProcessIsShort, VarsAreDistinct}
use Rattle.tap_base.specs.Resolved.{IsMessage, IsResolved, IsResolvedProcess}
use Rattle.tap_types.specs.SendOffences.{is_received, unreceived_of, unreceived_sends}
use Rattle.tap_types.specs.Systems.{processes_of}
use Rattle.tap_types.specs.Wholeness.{ResolvesWhole}
use Rattle.tap_types.proofs.whole.CellRuns.{get_behind}
use Rattle.tap_types.proofs.whole.FoundReceivers.{sendable}
use Rattle.tap_types.proofs.whole.ProcessParts.{processes_first, processes_length}
use Rattle.tap_types.proofs.whole.Sendable.{Sendable}
use Rattle.tap_types.proofs.whole.WholeMessages.{GoodMessage, count_fewer, messages_distinct, messages_few, messages_good, name_new, name_short}
use Rattle.tap_types.proofs.whole.WholeProcesses.{GoodProcess, process_good}
use Rattle.tap_base.proofs.DistinctFacts.{distinct_behind}
use Rattle.tap_base.proofs.GatheredFacts.{behind_distinct, behind_each, behind_few}
use Rattle.tap_types.proofs.KeptNames.{message_kept, processes_kept}

-- ---- declared processes

-- a process that is declared without an offence
pub record IsDeclared (messages before : List (List ℕ)) (p : AstProcess) : Type 0 where
  pub name : name_offences (messages ++ before) p.name ≡ []
  pub count : count_offences 64 before p.name ≡ []
  pub inner : inner_offences p ≡ []

declared : (messages before : List (List ℕ)) (p : AstProcess) → process_offences messages before p ≡ [] → IsDeclared messages before p
declared messages before p h =
    let a = name_offences (messages ++ before) p.name in
    let b = count_offences 64 before p.name in
    let ab = none_first (a ++ b) (inner_offences p) h in
    record { name = none_first a b ab; count = none_second a b ab; inner = none_second (a ++ b) (inner_offences p) h }

-- its name is short, and what it declares has no offence
abbrev DeclaredFact : AstProcess → Type 0
DeclaredFact p = IsShort p.name.text × (inner_offences p ≡ [])

abbrev process_step : List AstMessage → List AstProcess → AstProcess → List Refusal
process_step ms before p = process_offences (message_names ms) (process_names before) p

processes_declared : (ms : List AstMessage) (ps : List AstProcess) → processes_offences ms ps ≡ [] → Each DeclaredFact ps
processes_declared ms ps h = behind_each (process_step ms) DeclaredFact (λ before p e. let d = declared (message_names ms) (process_names before) p e in (name_short (message_names ms ++ process_names before) p.name d.name, d.inner)) [] ps h

processes_few : (ms : List AstMessage) (ps : List AstProcess) → processes_offences ms ps ≡ [] → length ps ≤ 64
processes_few ms ps h = behind_few (process_step ms) 64 few ps h
  where
    few : (before : List AstProcess) (p : AstProcess) → process_step ms before p ≡ [] → length before < 64
    few before p e = subst (λ z. z < 64) (length-map before (λ (x : AstProcess). x.name.text)) (count_fewer 64 (process_names before) p.name (declared (message_names ms) (process_names before) p e).count)

-- messages and processes have names of their own
names_distinct : (ms : List AstMessage) (ps : List AstProcess) → messages_offences ms ≡ [] → processes_offences ms ps ≡ [] → AreDistinct (message_names ms ++ process_names ps)
names_distinct ms ps m p = behind_distinct (process_step ms) (λ x. x.name.text) (message_names ms) (messages_distinct ms m) (λ before x e. name_new (message_names ms ++ process_names before) x.name (declared (message_names ms) (process_names before) x e).name) ps p

-- ---- each process

module _ (ms : List AstMessage) (all : List AstProcess) (system : System) (kept : system.messages ≡ map message_of ms)
    (sends : (n : ℕ) (sender : List ℕ) (names : List (Entry Named)) → slice_get (process_names all) n ≡ Some sender → Sendable (process_scope ms (process_names all) n names) system n (is_received all sender)) where
  abbrev ns : List (List ℕ)
  ns = process_names all

  -- those from the number n on
  processes_good : (n : ℕ) (ps : List AstProcess) (qs : List Process) (front : List (List ℕ)) → length front ≡ n → ns ≡ front ++ process_names ps → Each ProcessIsGiven ps → Each DeclaredFact ps
      → by_number n (process_uses ms ns) ps ≡ [] → joined (map (unreceived_of (is_received all)) ps) ≡ [] → processes_of ms ns n ps ≡ Some qs → EachFrom n (GoodProcess system) qs
  processes_good n [] qs front l c given facts uses sent e = let F : List Process → Type 0 = λ z. EachFrom n (GoodProcess system) z in subst F (same_Some [] qs e) tt
  processes_good n (p ∷ ps) qs front l c given facts uses sent e =
      let F : List Process → Type 0 = λ z. EachFrom n (GoodProcess system) z in
      let r = processes_first ms ns n p ps qs e in
      let here : n + 0 ≡ n = omega arith in
      let at : slice_get ns n ≡ Some p.name.text = ap (slice_get ns) (sym here) ∙ ap (λ z. slice_get ns (z + 0)) (sym l) ∙ ap (λ z. slice_get z (length front + 0)) c ∙ get_behind front (p.name.text ∷ process_names ps) 0 in
      let first = process_good ms ns system n p r.0 (is_received all p.name.text) kept (λ names. sends n p.name.text names at) given.0 facts.0.0 facts.0.1 (none_first (process_uses ms ns n p) (by_number (n + 1) (process_uses ms ns) ps) uses) (none_first (unreceived_of (is_received all) p) (joined (map (unreceived_of (is_received all)) ps)) sent) r.2 in
      let longer : length (front ++ p.name.text ∷ []) ≡ n + 1 = length-append front (p.name.text ∷ []) ∙ ap (λ z. z + 1) l in
      let later = processes_good (n + 1) ps r.1 (front ++ p.name.text ∷ []) longer (c ∙ sym (append_assoc front (p.name.text ∷ []) (process_names ps))) given.1 facts.1 (none_second (process_uses ms ns n p) (by_number (n + 1) (process_uses ms ns) ps) uses) (none_second (unreceived_of (is_received all) p) (joined (map (unreceived_of (is_received all)) ps)) sent) r.3 in
      subst F r.4 (first, later)

-- ---- what is known of each, apart

resolved_from : (system : System) (n : ℕ) (qs : List Process) → EachFrom n (GoodProcess system) qs → EachFrom n (IsResolvedProcess system) qs
resolved_from system n [] h = tt
resolved_from system n (q ∷ qs) h = (h.0.is, resolved_from system (n + 1) qs h.1)

short_from : (system : System) (n : ℕ) (qs : List Process) → EachFrom n (GoodProcess system) qs → Each ProcessIsShort qs
short_from system n [] h = tt
short_from system n (q ∷ qs) h = (h.0.short, short_from system (n + 1) qs h.1)

distinct_from : (system : System) (n : ℕ) (qs : List Process) → EachFrom n (GoodProcess system) qs → Each VarsAreDistinct qs
distinct_from system n [] h = tt
distinct_from system n (q ∷ qs) h = (h.0.distinct, distinct_from system (n + 1) qs h.1)

-- ---- the whole tree

pub resolves_whole : ResolvesWhole
resolves_whole tree system parts h e =
    let ms = tree.messages in
    let ps = tree.processes in
    let ns = process_names ps in
    let S : List Process → System = λ z. record { messages = map message_of ms; processes = z } in
    let m = mapped S (processes_of ms ns 0 ps) system e in
    let qs = m.0 in
    let du = none_first (declaration_offences tree ++ use_offences tree) (unreceived_sends tree) h in
    let sent = none_second (declaration_offences tree ++ use_offences tree) (unreceived_sends tree) h in
    let d = none_first (declaration_offences tree) (use_offences tree) du in
    let uses = none_second (declaration_offences tree) (use_offences tree) du in
    let of_messages = none_first (messages_offences ms) (processes_offences ms ps) d in
    let of_processes = none_second (messages_offences ms) (processes_offences ms ps) d in
    let together = names_distinct ms ps of_messages of_processes in
    let apart = distinct_behind (message_names ms) ns together in
    let sends = λ (n : ℕ) (sender : List ℕ) (names : List (Entry Named)) (at : slice_get ns n ≡ Some sender). sendable ms ps qs m.1 apart n sender names at in
    let good = processes_good ms ps (S qs) refl sends 0 ps qs [] refl refl parts.processes (processes_declared ms ps of_processes) uses sent m.1 in
    let count = processes_length ms ns 0 ps qs m.1 in
    let good_messages = messages_good ms of_messages in
    let texts : map (λ (m : Message). m.name) (map message_of ms) ++ map (λ (q : Process). q.name) qs ≡ message_names ms ++ ns = ap (λ z. z ++ map (λ (q : Process). q.name) qs) (message_kept ms) ∙ ap (λ z. message_names ms ++ z) (processes_kept ms ns 0 ps qs m.1) in
    subst IsResolved m.2 (record {
      some_process = subst (λ z. 1 ≤ z) (sym count) parts.some_process;
      few_processes = subst (λ z. z ≤ 64) (sym count) (processes_few ms ps of_processes);
      few_messages = subst (λ z. z ≤ 256) (sym (length-map ms message_of)) (messages_few ms of_messages);
      messages = each_weaker GoodMessage IsMessage (map message_of ms) (λ x g. g.is) good_messages;
      processes = resolved_from (S qs) 0 qs good;
      short = record {
        messages = each_weaker GoodMessage MessageIsShort (map message_of ms) (λ x g. g.short) good_messages;
        processes = short_from (S qs) 0 qs good;
      };
      distinct = record {
        together = subst AreDistinct (sym texts) together;
        messages = each_weaker GoodMessage FieldsAreDistinct (map message_of ms) (λ x g. g.distinct) good_messages;
        processes = distinct_from (S qs) 0 qs good;
      };
    })
