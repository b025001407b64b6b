use Rattle.std.proofs.Common.{sym}
use Rattle.run_text.proofs.NamesAt.{name_found, name_missing}
use Rattle.trace_entries.specs.LineNames.{var_names}
use Rattle.trace_entries.proofs.Vars.{at_index, var_position}
use Rattle.trace_entries.proofs.open.read_var_name.Goals as goal

pub returns-in-Some : goal.returns-in-Some
returns-in-Some c = (
  name_found (var_names c.args.vars.now) c.args.word.now c.in-Some.at (var_position c.args.word.now c.args.vars.now _ (sym c.in-Some.ensures.place)),
  at_index c.args.vars.now c.in-Some.at c.index-vars-at.result c.in-Some.ensures.within,
)

pub returns-in-None : goal.returns-in-None
returns-in-None c = λ bad x k w. name_missing (var_names c.args.vars.now) c.args.word.now x (var_position c.args.word.now c.args.vars.now _ (sym c.in-None.ensures.place)) w.0
