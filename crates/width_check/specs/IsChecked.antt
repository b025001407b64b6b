-- The systems that are checked: all names are resolved, and no value leaves its width and no action its limits.
use Rattle.std.specs.Prelude.{◌≡◌, []}
use Rattle.tap_base.specs.declared.system.System.{System}
use Rattle.tap_base.specs.Resolved.{IsResolved}
use Rattle.width_check.specs.Offences.{offences}

pub record IsChecked (system : System) : Type 0 where
  pub resolved : IsResolved system
  pub clear : offences system ≡ []
