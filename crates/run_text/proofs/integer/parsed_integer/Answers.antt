use Rattle.std.proofs.Common.{◌≡◌, sym, subst}
use Rattle.run_text.specs.Operands.{IsIntegerWord}
use Rattle.run_text.proofs.Numbers.{integer_back, integer_refused, integer_spelled}
use Rattle.run_text.proofs.integer.parsed_integer.Goals as goal

pub returns-in-Ok : goal.returns-in-Ok
returns-in-Ok c =
    let k = integer_spelled c.args.text.now c.parse.result c.in-Ok.number c.in-Ok.is c.requires c.parse.ensures.value.0 in
    subst (IsIntegerWord c.args.text.now) (sym (integer_back c.in-Ok.number k.0)) k

pub returns-in-Err : goal.returns-in-Err
returns-in-Err c = λ bad x w. integer_refused c.args.text.now c.parse.result _ x c.in-Err.is c.parse.ensures.value.0 w
