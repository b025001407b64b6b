use Rattle.std.proofs.Common.{◌≡◌, ◌+◌, ◌++◌, drop, map}
use Rattle.tap_exec.specs.Filling.{wire_field}
use Rattle.byte_meaning.specs.Apart.{bit_length}
use Rattle.byte_meaning.specs.Reading.{bits_of, values_by}
use Rattle.byte_meaning.proofs.Held.{fixed_in}
use Rattle.byte_meaning.proofs.reading.values_spelled.Given as goal

abbrev pub invariant-loop-field : goal.invariant-loop-field
invariant-loop-field l = record {
  at : l.at + bit_length (map wire_field (drop l.field-index l.fields)) ≡ bit_length (map wire_field l.fields);
  values : l.values ++ values_by (map wire_field (drop l.field-index l.fields)) (drop l.at (bits_of l.bytes)) ≡ values_by (map wire_field l.fields) (bits_of l.bytes);
  held : fixed_in (map wire_field (drop l.field-index l.fields)) (drop l.at (bits_of l.bytes)) ≡ fixed_in (map wire_field l.fields) (bits_of l.bytes);
}
