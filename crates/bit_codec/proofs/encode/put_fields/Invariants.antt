use Rattle.std.proofs.Common.{take}
use Rattle.byte_meaning.specs.Spelling.{all_digits}
use Rattle.bit_codec.specs.inner.Puts.{Puts, nothing_pending}
use Rattle.bit_codec.proofs.encode.put_fields.Given as goal

abbrev pub invariant-loop-i : goal.invariant-loop-i
invariant-loop-i l = Puts l.initial.room nothing_pending (all_digits (take l.i l.fields) (take l.i l.values)) l.room l.p
