-- The names in the lines of a system's runs are those that it declares.
use Rattle.std.proofs.Common.{◌≡◌, ℕ, List, [], ◌∷◌, map, refl, ap, subst}
use Rattle.tap_base.specs.Lists.{Each}
use Rattle.tap_base.specs.declared.system.Process.{Process}
use Rattle.tap_base.specs.declared.system.System.{System}
use Rattle.tap_base.specs.declared.system.Var.{Var}
use Rattle.tap_base.specs.declared.wire.WireField.{WireField}
use Rattle.tap_exec.specs.Semantics.{messages_of, process_semantics, semantics_of}
use Rattle.run_text.specs.Names.{AreNames}
use Rattle.run_text.specs.TraceText.{var_name}
use Rattle.trace_entries.specs.LineNames.{var_names}
use Rattle.replay.specs.Grammar.{TellsNames}

same_vars : (vs : List Var) → map (λ (v : Var). v.name) vs ≡ var_names (map var_name vs)
same_vars [] = refl
same_vars (v ∷ vs) = ap (λ z. v.name ∷ z) (same_vars vs)

same_names : (messages : List (List WireField)) (ps : List Process) → map (λ (p : Process). p.name) ps ≡ map (λ p. p.name) (map (process_semantics messages) ps)
same_names messages [] = refl
same_names messages (p ∷ ps) = ap (λ z. p.name ∷ z) (same_names messages ps)

each_own : (messages : List (List WireField)) (ps : List Process) → Each (λ (p : Process). AreNames (map (λ (v : Var). v.name) p.vars)) ps
    → Each (λ own. AreNames (var_names own)) (map (λ p. map var_name p.vars) (map (process_semantics messages) ps))
each_own messages [] h = tt
each_own messages (p ∷ ps) h = (subst AreNames (same_vars p.vars) h.0, each_own messages ps h.1)

-- where they tell the processes apart, and the variables of each, so do those
pub tells_names : (system : System) → AreNames (map (λ (p : Process). p.name) system.processes) → Each (λ (p : Process). AreNames (map (λ (v : Var). v.name) p.vars)) system.processes
    → TellsNames (semantics_of system)
tells_names system processes vars = record {
  processes = subst AreNames (same_names (messages_of system) system.processes) processes;
  vars = each_own (messages_of system) system.processes vars;
}
