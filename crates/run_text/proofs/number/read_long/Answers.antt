use Rattle.std.proofs.Common.{◌≡◌, true, false}
use Rattle.run_text.proofs.Numbers.{long_begins, long_text}
use Rattle.run_text.proofs.number.read_long.Goals as goal

pub returns-then-not-begins_number : goal.returns-then-not-begins_number
returns-then-not-begins_number c = λ bad n w. let k = c.if-not-begins_number.ensures.1 (long_begins c.args.word.now n w) in cc

pub returns-in-Err : goal.returns-in-Err
returns-in-Err c = λ bad n w. c.in-Err.ensures.cases.0 (long_text c.args.word.now n w)
