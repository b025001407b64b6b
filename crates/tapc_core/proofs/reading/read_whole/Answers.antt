use Rattle.std.proofs.Common.{◌≡◌, ap, arith, length}
use Rattle.tapc_core.proofs.FrontRead.{whole_from_front}
use Rattle.tapc_core.proofs.reading.read_whole.Goals as goal

pub returns-clause-whole : goal.returns-clause-whole
returns-clause-whole g c =
    let shown : length c.as_slice.result.now ≡ length c.in_ok-bytes.bytes = ap length c.as_slice.ensures in
    whole_from_front _ 18446744073709551615 c.in_ok-bytes.bytes _ (omega arith) c.in_ok-bytes.ensures.front
