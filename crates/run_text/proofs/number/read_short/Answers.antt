use Rattle.std.proofs.Common.{◌≡◌, arith}
use Rattle.run_text.proofs.Numbers.{one_number}
use Rattle.run_text.proofs.number.read_short.Goals as goal

pub returns-then-number-gt4294967295 : goal.returns-then-number-gt4294967295
returns-then-number-gt4294967295 c = λ bad n w. let same = one_number c.args.word.now n c.in_ok-number.number (omega (arith, w.0), w.1) c.in_ok-number.ensures in omega (arith, same, w.0, c.if-number-gt4294967295.true)
