-- In a system that a text is accepted as, the names of the variables of each process tell them apart.
use Rattle.std.proofs.Common.{◌≡◌, ℕ, ◌+◌, List, [], ◌∷◌, map, Some, subst}
use Rattle.std.proofs.lemmas.Option.{same_Some}
use Rattle.tap_base.specs.LineWords.{IsWord}
use Rattle.tap_base.specs.Lists.{AreDistinct, Each}
use Rattle.tap_base.specs.NamesOfSystems.{VarsAreDistinct}
use Rattle.tap_base.specs.Option.{each}
use Rattle.tap_base.specs.declared.ast.AstMessage.{AstMessage}
use Rattle.tap_base.specs.declared.ast.AstProcess.{AstProcess}
use Rattle.tap_base.specs.declared.ast.AstVar.{AstVar}
use Rattle.tap_base.specs.declared.system.Process.{Process}
use Rattle.tap_base.specs.declared.system.System.{System}
use Rattle.tap_base.specs.declared.system.Var.{Var}
use Rattle.tap_base.proofs.DistinctFacts.{distinct_behind}
use Rattle.tap_base.proofs.OptionFacts.{bound, option_map_some}
use Rattle.tap_names.specs.Declarations.{process_names}
use Rattle.tap_names.specs.Names.{constants, message_of, var_of}
use Rattle.tap_names.specs.Tables.{Entry}
use Rattle.tap_names.specs.declared.named.Named.{Named}
use Rattle.tap_types.specs.Systems.{processes_of}
use Rattle.tap_types.proofs.whole.ProcessParts.{of_process, processes_first}
use Rattle.tap_types.proofs.whole.StandingNames.{var_is}
use Rattle.tap_front.specs.Accepting.{Accepted}
use Rattle.tap_front.specs.Laws.{VarNamesTellApart}
use Rattle.tap_front.specs.inner.DeclaredNames.{ProcessWords}
use Rattle.tap_front.proofs.NamesAreWords.{are_words}
use Rattle.tap_front.proofs.Wholes.{resolved_is_whole}

abbrev HasWords : Process → Type 0
HasWords q = Each (λ (v : Var). IsWord v.name) q.vars

vars_words : (consts : List (Entry Named)) (vs : List AstVar) (ws : List Var) → each (var_of consts) vs ≡ Some ws → Each (λ v. IsWord v.name.text) vs → Each (λ (w : Var). IsWord w.name) ws
vars_words consts [] ws e h = subst (Each (λ (w : Var). IsWord w.name)) (same_Some [] ws e) tt
vars_words consts (v ∷ vs) ws e h =
    let first = bound _ (var_of consts v) ws e in
    let rest = bound (λ us. Some (first.0 ∷ us)) (each (var_of consts) vs) ws first.2 in
    let is = var_is consts v first.0 first.1 in
    subst (Each (λ (w : Var). IsWord w.name)) (same_Some (first.0 ∷ rest.0) ws rest.2)
    (subst (λ (w : Var). IsWord w.name) is.3 h.0, vars_words consts vs rest.0 rest.1 h.1)

processes_words : (messages : List AstMessage) (names : List (List ℕ)) (n : ℕ) (ps : List AstProcess) (qs : List Process) → processes_of messages names n ps ≡ Some qs → Each ProcessWords ps → Each HasWords qs
processes_words messages names n [] qs e h = subst (Each HasWords) (same_Some [] qs e) tt
processes_words messages names n (p ∷ ps) qs e h =
    let r = processes_first messages names n p ps qs e in
    let parts = of_process messages names n p r.0 r.2 in
    subst (Each HasWords) r.4 (subst HasWords parts.is (vars_words (constants p.consts) p.vars parts.vars parts.of_vars h.0.vars), processes_words messages names (n + 1) ps r.1 r.3 h.1)

has_words : (text : List ℕ) (system : System) → Accepted text system → Each HasWords system.processes
has_words text system h =
    let tree = h.tree in
    let S : List Process → System = λ z. record { messages = map message_of tree.messages; processes = z } in
    option_map_some S (processes_of tree.messages (process_names tree.processes) 0 tree.processes) system h.resolved.named
    (λ qs r t. subst (λ (s : System). Each HasWords s.processes) t (processes_words tree.messages (process_names tree.processes) 0 tree.processes qs r (are_words text tree h.read).processes))

all_words : (vs : List Var) → Each (λ (v : Var). IsWord v.name) vs → Each IsWord (map (λ (v : Var). v.name) vs)
all_words [] h = tt
all_words (v ∷ vs) h = (h.0, all_words vs h.1)

each_own : (qs : List Process) → Each VarsAreDistinct qs → Each HasWords qs → Each (λ (q : Process). let names = map (λ (v : Var). v.name) q.vars in Each IsWord names × AreDistinct names) qs
each_own [] h k = tt
each_own (q ∷ qs) h k =
    ((all_words q.vars k.0, distinct_behind (map (λ (v : Var). v.name) q.inputs) (map (λ (v : Var). v.name) q.vars) h.0), each_own qs h.1 k.1)

pub var_names_tell_apart : VarNamesTellApart
var_names_tell_apart text system h =
    each_own system.processes (resolved_is_whole text h.tree system h.read h.resolved).distinct.processes (has_words text system h)
