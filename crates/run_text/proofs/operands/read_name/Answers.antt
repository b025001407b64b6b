use Rattle.std.proofs.Common.{sym}
use Rattle.run_text.proofs.NamesAt.{name_found, name_missing}
use Rattle.run_text.proofs.operands.read_name.Goals as goal

pub returns-in-Some : goal.returns-in-Some
returns-in-Some c = name_found c.args.names.now c.args.word.now c.in-Some.place (sym c.in-Some.ensures.place)

pub returns-in-None : goal.returns-in-None
returns-in-None c = λ bad p w. name_missing c.args.names.now c.args.word.now p (sym c.in-None.ensures.place) w
