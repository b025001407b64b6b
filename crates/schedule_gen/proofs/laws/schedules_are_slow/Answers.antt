use Rattle.schedule_gen.proofs.Goes.{is_slow}
use Rattle.schedule_gen.proofs.laws.schedules_are_slow.Goals as goal

pub returns : goal.returns
returns c = is_slow
