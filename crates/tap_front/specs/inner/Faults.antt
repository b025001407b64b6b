-- Why a text gives no system, of why it is not read as a tree, of why its tree does not resolve, of why its system is not
-- checked, and of why its messages are not laid out.
use Rattle.std.specs.Prelude.{◌≡◌, [], Some, Result, Ok, Err}
use Rattle.tap_base.specs.ListWords.{first}
use Rattle.tap_base.specs.declared.system.System.{System}
use Rattle.tap_expr.specs.declared.fault.ParseFault.{ParseFault}
use Rattle.tap_expr.specs.declared.fault.ParseFault.TheVariants as parse
use Rattle.tap_names.specs.declared.fault.TypeFault.{TypeFault}
use Rattle.tap_names.specs.declared.fault.TypeFault.TheVariants as names
use Rattle.width_check.specs.Offences.{offences}
use Rattle.width_check.specs.declared.fault.WidthFault.{WidthFault}
use Rattle.width_check.specs.declared.fault.WidthFault.TheVariants as widths
use Rattle.tap_base.specs.Wires.{wire_of}
use Rattle.tap_front.specs.Layouts.{IsLaidOut, Mislays}
use Rattle.tap_front.specs.declared.offence.Offence.TheVariants.{Coded}
use Rattle.tap_front.specs.declared.texts.TextFault.{TextFault}
use Rattle.tap_front.specs.declared.texts.TextFault.TheVariants as text

-- what follows from a text that is not read as a tree
abbrev pub unread : ParseFault → TextFault
unread (parse.Refused refusal) = text.Refused (Coded refusal)
unread parse.NoMemory = text.NoMemory

-- what follows from a tree that does not resolve
abbrev pub unresolved : TypeFault → TextFault
unresolved (names.Refused refusal) = text.Refused (Coded refusal)
unresolved names.NoMemory = text.NoMemory

-- what follows from a system that is not checked
abbrev pub unchecked : WidthFault → TextFault
unchecked (widths.Refused refusal) = text.Refused (Coded refusal)
unchecked widths.NoMemory = text.NoMemory

-- what the check of a system answers: the system, where it has no offence, or its first one
abbrev pub ChecksTo : System → Result System WidthFault → Type 0
ChecksTo system (Ok checked) = (checked ≡ system) × (offences system ≡ [])
ChecksTo system (Err (widths.Refused refusal)) = first (offences system) ≡ Some refusal
ChecksTo system (Err widths.NoMemory) = Unit {0}

-- what the layout of a system's messages answers: that they can be laid out, or the first offence against that
abbrev pub LaysOut : {A : Type 0} → System → Result A TextFault → Type 0
LaysOut system (Ok done) = IsLaidOut (wire_of system)
LaysOut system (Err (text.Refused offence)) = Mislays system offence
LaysOut system (Err text.NoMemory) = Unit {0}
