-- What holds of every resolved system that is judged right.
use Rattle.tap_base.specs.declared.system.System.{System}
use Rattle.tap_base.specs.Resolved.{IsResolved}
use Rattle.abstract_run.specs.Safe.{BeginsInRange, BodiesKeepRanges, IsComputed}
use Rattle.tap_exec.specs.Semantics.{semantics_of}
use Rattle.sound_bodies.specs.Judged.{IsJudgedSystem}

-- It begins within its ranges, its bodies keep them, and 64-bit numbers compute it.
pub record IsSoundSystem (system : System) : Type 0 where
  pub begins : BeginsInRange (semantics_of system)
  pub keeps : BodiesKeepRanges (semantics_of system)
  pub computes : IsComputed system

abbrev pub BodiesAreSound : Type 0
BodiesAreSound = (system : System) → IsResolved system → IsJudgedSystem system → IsSoundSystem system
