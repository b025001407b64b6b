use Rattle.std.proofs.Common.{◌≡◌, map, take}
use Rattle.register_code.specs.Fields.{code_message}
use Rattle.register_code.proofs.wires.wire_messages.Given as goal

abbrev pub invariant-loop-at : goal.invariant-loop-at
invariant-loop-at l = l.all ≡ map code_message (take l.at l.messages)
