-- What the check answers.
use Rattle.std.specs.Prelude.{◌≡◌, [], Some, Result, Ok, Err}
use Rattle.tap_base.specs.declared.system.System.{System}
use Rattle.tap_base.specs.ListWords.{first}
use Rattle.width_check.specs.declared.fault.WidthFault.{WidthFault}
use Rattle.width_check.specs.declared.fault.WidthFault.TheVariants as fault
use Rattle.width_check.specs.Offences.{offences}

-- The system is as it was: checked where it has no offence, or beside its first one. Of offences nothing is said where
-- memory was refused.
abbrev pub Checks : System → Result System (System × WidthFault) → Type 0
Checks system (Ok checked) = (checked ≡ system) × (offences system ≡ [])
Checks system (Err (back, fault.Refused r)) = (back ≡ system) × (first (offences system) ≡ Some r)
Checks system (Err (back, fault.NoMemory)) = back ≡ system
