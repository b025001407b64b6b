use Rattle.schedule_gen.proofs.Goes.{goes_on, as_long}
use Rattle.schedule_gen.proofs.laws.schedules_go_on.Goals as goal

pub returns-clause-goes_on : goal.returns-clause-goes_on
returns-clause-goes_on c = goes_on

pub returns-clause-as_long : goal.returns-clause-as_long
returns-clause-as_long c = as_long
