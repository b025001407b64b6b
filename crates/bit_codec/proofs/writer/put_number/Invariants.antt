use Rattle.std.proofs.Common.{take}
use Rattle.byte_meaning.specs.Spelling.{digits}
use Rattle.bit_codec.specs.inner.Puts.{Puts}
use Rattle.bit_codec.proofs.writer.put_number.Given as goal

abbrev pub invariant-loop-i : goal.invariant-loop-i
invariant-loop-i l = Puts l.initial.room l.fn.p (take l.i (digits l.width l.number)) l.room l.q
