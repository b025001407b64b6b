use Rattle.std.proofs.Common.{◌≡◌, arith}
use Rattle.run_text.proofs.Numbers.{one_up_to}
use Rattle.run_text.proofs.number.read_up_to.Goals as goal

pub returns-then-number-most : goal.returns-then-number-most
returns-then-number-most c = λ bad n w. one_up_to c.args.word.now n c.in_ok-number.number c.args.most (omega (arith, c.if-number-most.true)) w c.in_ok-number.ensures
