use Rattle.std.proofs.Common.{◌≡◌, ◌+◌, ◌++◌, take, drop}
use Rattle.tap_base.specs.Lists.{Each}
use Rattle.byte_meaning.specs.Apart.{bit_length}
use Rattle.byte_meaning.specs.Reading.{bits_of, values_by}
use Rattle.message_layout.specs.Wires.{IsField}
use Rattle.bit_codec.proofs.reader.read_into.Given as goal

abbrev pub invariant-loop-i : goal.invariant-loop-i
invariant-loop-i l = record {
  at : l.at + bit_length (drop l.i l.fields) ≡ bit_length l.fields;
  front : take l.i l.values ++ values_by (drop l.i l.fields) (drop l.at (bits_of l.bytes)) ≡ values_by l.fields (bits_of l.bytes);
  back : drop l.i l.values ≡ drop l.i l.initial.values;
  fields : Each IsField (drop l.i l.fields);
}
