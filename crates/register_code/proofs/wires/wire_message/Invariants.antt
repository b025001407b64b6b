use Rattle.std.proofs.Common.{◌≡◌, map, take}
use Rattle.register_code.specs.Fields.{code_field}
use Rattle.register_code.proofs.wires.wire_message.Given as goal

abbrev pub invariant-loop-at : goal.invariant-loop-at
invariant-loop-at l = l.all ≡ map code_field (take l.at l.fields)
