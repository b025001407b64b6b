-- A checked system can be run.
use Rattle.std.proofs.Common.{◌<◌, ◌+◌, ◌^◌, ℕ, List, [], ◌∷◌, arith}
use Rattle.std.specs.Prelude.{length}
use Rattle.tap_base.specs.declared.system.Process.{Process}
use Rattle.tap_base.specs.declared.system.System.{System}
use Rattle.tap_base.specs.Lists.{Each, EachFrom}
use Rattle.tap_base.specs.Resolved.{IsField, IsMessage, IsResolvedProcess}
use Rattle.tap_base.proofs.ListFacts.{each_weaker}
use Rattle.drawn_bodies.proofs.Acts.{actions_drawn}
use Rattle.checked_systems.specs.CheckedRuns.{CheckedRuns}
use Rattle.checked_systems.proofs.Systems.{checked_sound}

few_actions : (system : System) (n : ℕ) (ps : List Process) → EachFrom n (IsResolvedProcess system) ps → Each (λ (p : Process). length p.actions < 2 ^ 32) ps
few_actions system n [] h = tt
few_actions system n (p ∷ ps) h = (omega (arith, h.0.few_actions), few_actions system (n + 1) ps h.1)

pub checked_runs : CheckedRuns
checked_runs system ok =
    let both = checked_sound system ok in
    let sound = both.1 in
    record {
      safe = record { messages = ok.resolved.messages; begins = sound.begins; keeps = sound.keeps; computed = sound.computes };
      draws = actions_drawn system ok.resolved both.0;
      narrow = each_weaker IsMessage _ system.messages (λ m h. each_weaker IsField _ m.fields (λ f k. k.1) h.1) ok.resolved.messages;
      counted = few_actions system 0 system.processes ok.resolved.processes;
    }
