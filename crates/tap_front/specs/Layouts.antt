-- Messages that can be laid out, and the first offence against that.
use Rattle.std.specs.Prelude.{◌≡◌, ℕ, slice_get, Some}
use Rattle.tap_base.specs.declared.refusal.RefusalCode.TheVariants as code
use Rattle.tap_base.specs.declared.system.Message.{Message}
use Rattle.tap_base.specs.declared.system.System.{System}
use Rattle.tap_base.specs.declared.wire.Wire.{Wire}
use Rattle.tap_base.specs.Wires.{wire_of}
use Rattle.tap_expr.specs.ExprText.{refusal}
use Rattle.byte_meaning.specs.Apart.{TellsApart}
use Rattle.byte_meaning.specs.Meaning.{HasReceive}
use Rattle.message_layout.specs.Clashes.{IsFirstClash}
use Rattle.message_layout.specs.Wires.{AreShort, IsFirstLong}
use Rattle.tap_front.specs.declared.offence.Offence.{Offence}
use Rattle.tap_front.specs.declared.offence.Offence.TheVariants.{Alike, Coded}

-- No message has more than 8,192 bits, and each two that one process receives from one other are told apart by their bytes.
pub record IsLaidOut (wire : Wire) : Type 0 where
  pub short : AreShort wire.messages
  pub apart : TellsApart wire.messages (HasReceive wire)

-- The first offence of a system against that: the first message that has more bits, at its name; where none has, the first two
-- that one process receives from one other and that are not told apart, at the name of the second.
pub data Mislays (system : System) : Offence → Type 0 where
  long : {m : ℕ} {message : Message} → IsFirstLong (wire_of system).messages m → slice_get system.messages m ≡ Some message → Mislays system (Coded (refusal code.M1 message.place))
  alike : {m n : ℕ} {one other : Message} → AreShort (wire_of system).messages → IsFirstClash (wire_of system) m n
      → slice_get system.messages m ≡ Some one → slice_get system.messages n ≡ Some other → Mislays system (Alike other.place one.name other.name)
