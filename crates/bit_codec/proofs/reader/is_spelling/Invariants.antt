use Rattle.std.proofs.Common.{◌≡◌, ◌+◌, drop}
use Rattle.tap_base.specs.Lists.{Each}
use Rattle.byte_meaning.specs.Apart.{bit_length}
use Rattle.byte_meaning.specs.Reading.{bits_of}
use Rattle.byte_meaning.proofs.Held.{fixed_in}
use Rattle.message_layout.specs.Wires.{IsField}
use Rattle.bit_codec.proofs.reader.is_spelling.Given as goal

abbrev pub invariant-fields : goal.invariant-fields
invariant-fields l = record {
  at : l.at + bit_length (drop l.field-index l.fields) ≡ bit_length l.fields;
  held : fixed_in (drop l.field-index l.fields) (drop l.at (bits_of l.bytes)) ≡ fixed_in l.fields (bits_of l.bytes);
  fields : Each IsField (drop l.field-index l.fields);
}
