use Rattle.std.proofs.Common.{◌≡◌, ◌<◌, ◌^◌, take, drop}
use Rattle.std.specs.Int.Digits.{number_from_digits}
use Rattle.byte_meaning.specs.Reading.{bits_of}
use Rattle.bit_codec.proofs.reader.number_at.Given as goal

abbrev pub invariant-loop-i : goal.invariant-loop-i
invariant-loop-i l = record {
  number : l.number ≡ number_from_digits 2 (take l.i (drop l.at (bits_of l.bytes)));
  small : l.number < 2 ^ l.i;
}
