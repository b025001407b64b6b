use Rattle.schedule_gen.proofs.Listed.{all_are_listed}
use Rattle.schedule_gen.proofs.OneSchedule.{made_is_schedule}
use Rattle.schedule_gen.proofs.laws.schedules_are_read.Goals as goal

pub returns-clause-listed : goal.returns-clause-listed
returns-clause-listed c = all_are_listed

pub returns-clause-text : goal.returns-clause-text
returns-clause-text c = made_is_schedule
