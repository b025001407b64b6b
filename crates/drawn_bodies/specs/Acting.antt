-- The choices of an enabled action can be drawn, in every resolved system that is judged right.
use Rattle.tap_base.specs.declared.system.System.{System}
use Rattle.tap_base.specs.Resolved.{IsResolved}
use Rattle.exact_choice.specs.Acting.{CanDraw}
use Rattle.sound_bodies.specs.Judged.{IsJudgedSystem}

abbrev pub ActionsAreDrawn : Type 0
ActionsAreDrawn = (system : System) → IsResolved system → IsJudgedSystem system → CanDraw system
