-- What a layout keeps.
use Rattle.std.specs.Prelude.{◌≡◌, ℕ, List, map}
use Rattle.tap_base.specs.declared.wire.Wire.{Wire}
use Rattle.byte_meaning.specs.Apart.{TellsApart, byte_length}
use Rattle.byte_meaning.specs.Meaning.{HasReceive}
use Rattle.message_layout.specs.declared.arrivals.Arrival.{Arrival}
use Rattle.message_layout.specs.Wires.{AreShort, IsWire}
use Rattle.message_layout.specs.inner.Arrivals.{AreArrivals}

pub record IsKept (wire : Wire) (lengths : List ℕ) (arrivals : List Arrival) : Type 0 where
  pub wire_is : IsWire wire
  pub short : AreShort wire.messages
  pub apart : TellsApart wire.messages (HasReceive wire)
  pub lengths_are : lengths ≡ map byte_length wire.messages
  pub arrivals_are : AreArrivals wire.receives arrivals
