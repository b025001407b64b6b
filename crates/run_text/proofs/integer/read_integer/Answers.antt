use Rattle.std.proofs.Common.{◌≡◌, true, false}
use Rattle.run_text.proofs.Numbers.{integer_begins, integer_text}
use Rattle.run_text.proofs.integer.read_integer.Goals as goal

pub returns-then-not-begins_integer : goal.returns-then-not-begins_integer
returns-then-not-begins_integer c = λ bad n w. let k = c.if-not-begins_integer.ensures.1 (integer_begins c.args.word.now n w) in cc

pub returns-in-Err : goal.returns-in-Err
returns-in-Err c = λ bad n w. c.in-Err.ensures.cases.0 (integer_text c.args.word.now n w)
