use Rattle.std.proofs.Common.{◌≡◌, ◌++◌, drop, map}
use Rattle.tap_base.specs.Wires.{wire_message}
use Rattle.tap_base.proofs.wire.wire_messages.Given as goal

abbrev pub invariant-messages : goal.invariant-messages
invariant-messages l = l.found ++ map wire_message (drop l.message-index l.messages) ≡ map wire_message l.messages
