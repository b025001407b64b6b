use Rattle.std.proofs.Common.{◌≡◌, ◌+◌, drop}
use Rattle.byte_meaning.specs.Apart.{bit_length}
use Rattle.message_layout.proofs.lengths.bit_count.Given as goal

abbrev pub invariant-fields : goal.invariant-fields
invariant-fields l = l.count + bit_length (drop l.field-index l.fields) ≡ bit_length l.fields
