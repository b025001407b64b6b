use Rattle.std.proofs.Common.{arith}
use Rattle.tapc_core.proofs.FrontRead.{whole_from_front, longer_than_read}
use Rattle.tapc_core.proofs.reading.read_text.Goals as goal

pub returns-then-len-le-LONGEST_TEXT-clause-text : goal.returns-then-len-le-LONGEST_TEXT-clause-text
returns-then-len-le-LONGEST_TEXT-clause-text g c =
    (omega arith, whole_from_front _ 1048577 c.in_ok-bytes.bytes _ (omega arith) c.in_ok-bytes.ensures.front)

pub returns-else-len-le-LONGEST_TEXT-clause-text : goal.returns-else-len-le-LONGEST_TEXT-clause-text
returns-else-len-le-LONGEST_TEXT-clause-text g c =
    longer_than_read _ c.in_ok-bytes.bytes _ (omega arith) c.in_ok-bytes.ensures.front
