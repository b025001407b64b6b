use Rattle.std.proofs.Common.{arith}
use Rattle.run_text.proofs.Hexes.{datagram, too_long}
use Rattle.run_text.proofs.Refusals.{reads_both}
use Rattle.run_text.specs.Operands.{IsBytesWord, IsDatagramWord}
use Rattle.run_text.proofs.operands.read_datagram.Goals as goal

pub returns-then-word-gt4096 : goal.returns-then-word-gt4096
returns-then-word-gt4096 c = λ bad bytes w. too_long c.args.word.now bytes c.if-word-gt4096.true w

pub returns : goal.returns
returns c =
    reads_both (IsBytesWord c.args.word.now) (IsDatagramWord c.args.word.now) c.read_bytes.result
    (λ bytes w. datagram c.args.word.now bytes (omega (arith, c.if-word-gt4096.false)) w) (λ bytes w. (w.0.1, w.1)) c.read_bytes.ensures
