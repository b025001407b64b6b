use Rattle.std.proofs.Common.{◌≡◌, ◌+◌, ◌*◌, ◌≤◌, drop, map}
use Rattle.tap_base.specs.Wires.{wire_field}
use Rattle.byte_meaning.specs.Apart.{bit_length}
use Rattle.tap_front.proofs.accepted.byte_count.Given as goal

abbrev pub invariant-loop-field : goal.invariant-loop-field
invariant-loop-field l = record {
  summed : l.bits + bit_length (map wire_field (drop l.field-index l.fields)) ≡ bit_length (map wire_field l.fields);
  bounded : l.bits ≤ 4294967295 * l.field-index;
}
