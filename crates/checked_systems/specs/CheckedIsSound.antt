-- A system without an offence is judged right.
use Rattle.tap_base.specs.declared.system.System.{System}
use Rattle.sound_bodies.specs.Bodies.{IsSoundSystem}
use Rattle.sound_bodies.specs.Judged.{IsJudgedSystem}
use Rattle.width_check.specs.IsChecked.{IsChecked}

abbrev pub CheckedIsSound : Type 0
CheckedIsSound = (system : System) → IsChecked system → IsJudgedSystem system × IsSoundSystem system
