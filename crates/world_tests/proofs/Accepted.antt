-- What a text that is accepted promises to a world.
use Rattle.std.proofs.Common.{◌≡◌, ◌<◌, ◌≤◌, ◌^◌, ℕ, List, [], ◌∷◌, map, length, refl, ap, subst, sym, arith}
use Rattle.std.proofs.lemmas.List.{length-map}
use Rattle.tap_base.specs.declared.system.Process.{Process}
use Rattle.tap_base.specs.declared.system.System.{System}
use Rattle.tap_base.specs.declared.wire.WireField.{WireField}
use Rattle.tap_base.specs.Wires.{wire_of}
use Rattle.tap_exec.specs.Semantics.{messages_of, process_semantics, semantics_of}
use Rattle.exact_choice.specs.Runnable.{IsRunnable}
use Rattle.run_text.specs.Names.{AreNames}
use Rattle.run_text.specs.TraceText.{names_in}
use Rattle.tap_front.specs.Accepting.{Accepted}
use Rattle.tap_front.proofs.Named.{names_tell_apart}
use Rattle.tap_front.proofs.ResolvedWires.{resolved_wire}
use Rattle.tap_front.proofs.Runs.{accepted_is_checked}
use Rattle.world_run.specs.Layouts.{HasLayout}

-- its wire can be laid out
pub has_layout : (text : List ℕ) (system : System) → Accepted text system → HasLayout (wire_of system)
has_layout text system h = record {
  asked = resolved_wire system (accepted_is_checked text system h).resolved;
  short = h.laid_out.short;
  apart = h.laid_out.apart;
}

same_names : (messages : List (List WireField)) (ps : List Process) → map (λ (p : Process). p.name) ps ≡ map (λ p. p.name) (map (process_semantics messages) ps)
same_names messages [] = refl
same_names messages (p ∷ ps) = ap (λ z. p.name ∷ z) (same_names messages ps)

-- the names in its lines tell its processes apart
pub names_apart : (text : List ℕ) (system : System) → Accepted text system → AreNames (names_in (semantics_of system))
names_apart text system h = subst AreNames (same_names (messages_of system) system.processes) (names_tell_apart text system h)

-- they are few
pub few_names : (system : System) (names : List (List ℕ)) → IsRunnable system → names ≡ names_in (semantics_of system) → length names < 2 ^ 32
few_names system names runnable e = let n = ap length e in let few = runnable.safe.begins.few in omega (arith, n, few, length-map (semantics_of system).processes (λ p. p.name))
