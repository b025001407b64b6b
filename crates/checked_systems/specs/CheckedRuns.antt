-- A checked system can be run.
use Rattle.tap_base.specs.declared.system.System.{System}
use Rattle.exact_choice.specs.Runnable.{IsRunnable}
use Rattle.width_check.specs.IsChecked.{IsChecked}

abbrev pub CheckedRuns : Type 0
CheckedRuns = (system : System) → IsChecked system → IsRunnable system
