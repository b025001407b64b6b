-- Why a wire has no layout.
use Rattle.tap_base.specs.declared.wire.Wire.{Wire}
use Rattle.message_layout.specs.declared.fault.LayoutFault.{LayoutFault}
use Rattle.message_layout.specs.declared.fault.LayoutFault.TheVariants as fault
use Rattle.message_layout.specs.Clashes.{IsFirstClash}
use Rattle.message_layout.specs.Wires.{AreShort, IsFirstLong}

-- The first message that is too long; where none is, the first two that are not told apart. Want of memory says nothing.
abbrev pub IsFault : Wire → LayoutFault → Type 0
IsFault wire (fault.TooLong m) = IsFirstLong wire.messages m
IsFault wire (fault.NotApart m n) = AreShort wire.messages × IsFirstClash wire m n
IsFault wire fault.NoMemory = Unit {0}
