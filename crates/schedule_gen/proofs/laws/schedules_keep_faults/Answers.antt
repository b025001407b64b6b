use Rattle.schedule_gen.proofs.Faults.{keeps_faults}
use Rattle.schedule_gen.proofs.laws.schedules_keep_faults.Goals as goal

pub returns : goal.returns
returns c = keeps_faults
