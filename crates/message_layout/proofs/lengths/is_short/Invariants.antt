use Rattle.std.proofs.Common.{◌≡◌, ◌+◌, ◌≤◌, drop}
use Rattle.byte_meaning.specs.Apart.{bit_length}
use Rattle.message_layout.specs.Wires.{most_bits}
use Rattle.message_layout.proofs.lengths.is_short.Given as goal

abbrev pub invariant-fields : goal.invariant-fields
invariant-fields l = record { sum : l.count + bit_length (drop l.field-index l.fields) ≡ bit_length l.fields; few : l.count ≤ most_bits }
