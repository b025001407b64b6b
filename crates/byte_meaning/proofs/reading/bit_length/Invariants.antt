use Rattle.std.proofs.Common.{◌≡◌, ◌+◌, ◌*◌, ◌≤◌, drop, map}
use Rattle.tap_exec.specs.Filling.{wire_field}
use Rattle.byte_meaning.specs.Apart.{bit_length}
use Rattle.byte_meaning.proofs.reading.bit_length.Given as goal

abbrev pub invariant-loop-field : goal.invariant-loop-field
invariant-loop-field l = record {
  counted : l.count + bit_length (map wire_field (drop l.field-index l.fields)) ≡ bit_length (map wire_field l.fields);
  bound : l.count ≤ 63 * l.field-index;
}
