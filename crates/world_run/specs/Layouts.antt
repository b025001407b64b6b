-- The layout of the messages of a system.
use Rattle.std.specs.Prelude.{◌≡◌}
use Rattle.tap_base.specs.declared.system.System.{System}
use Rattle.tap_base.specs.declared.wire.Wire.{Wire}
use Rattle.tap_base.specs.Wires.{wire_of}
use Rattle.byte_meaning.specs.Apart.{TellsApart}
use Rattle.byte_meaning.specs.Meaning.{HasReceive}
use Rattle.message_layout.specs.Wires.{AreShort, IsWire}

-- A wire that can be laid out: no message has more than 8,192 bits, and each two that one process receives from one other are
-- told apart by their bytes.
pub record HasLayout (wire : Wire) : Type 0 where
  pub asked : IsWire wire
  pub short : AreShort wire.messages
  pub apart : TellsApart wire.messages (HasReceive wire)

-- The layout is that of the wire of a system, and no message has more than 8,192 bits.
pub record IsLayoutOf (system : System) (layout : Wire) : Type 0 where
  pub same : layout ≡ wire_of system
  pub short : AreShort layout.messages
