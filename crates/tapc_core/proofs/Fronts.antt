-- What a text that can be run promises to a run.
use Rattle.std.proofs.Common.{ℕ, List}
use Rattle.tap_base.specs.declared.system.System.{System}
use Rattle.tap_base.specs.Wires.{wire_of}
use Rattle.tap_exec.specs.Semantics.{semantics_of}
use Rattle.run_text.specs.Names.{AreNames}
use Rattle.run_text.specs.TraceText.{names_in}
use Rattle.replay.specs.Grammar.{TellsNames}
use Rattle.replay.proofs.NamesOfSystems.{tells_names}
use Rattle.tap_front.specs.Accepting.{Accepted}
use Rattle.tap_front.proofs.Named.{names_tell_apart}
use Rattle.tap_front.proofs.ResolvedWires.{resolved_wire}
use Rattle.tap_front.proofs.Runs.{accepted_is_checked}
use Rattle.tap_front.proofs.VarNames.{var_names_tell_apart}
use Rattle.world_run.specs.Layouts.{HasLayout}

-- its names tell its processes apart in the lines of a run, and the variables of each
pub told_names : (text : List ℕ) (system : System) → Accepted text system → TellsNames (semantics_of system)
told_names text system h = tells_names system (names_tell_apart text system h) (var_names_tell_apart text system h)

pub names_apart : (text : List ℕ) (system : System) → Accepted text system → AreNames (names_in (semantics_of system))
names_apart text system h = (told_names text system h).processes

-- its wire can be laid out
pub has_layout : (text : List ℕ) (system : System) → Accepted text system → HasLayout (wire_of system)
has_layout text system h = record {
  asked = resolved_wire system (accepted_is_checked text system h).resolved;
  short = h.laid_out.short;
  apart = h.laid_out.apart;
}
