use Rattle.run_text.proofs.Numbers.{long_refused, long_spelled}
use Rattle.tapc_core.proofs.seeds.parsed.Goals as goal

pub returns-in-Ok : goal.returns-in-Ok
returns-in-Ok c = long_spelled c.args.text.now c.parse.result _ c.in-Ok.is c.requires c.parse.ensures.value.0

pub returns-in-Err : goal.returns-in-Err
returns-in-Err c = λ x w. long_refused c.args.text.now c.parse.result _ x c.in-Err.is c.parse.ensures.value.0 w
