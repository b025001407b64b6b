use Rattle.sound_code.proofs.Guarded as Guarded
use Rattle.sound_code.proofs.laws.guards_run.Goals as goal

pub returns : goal.returns
returns c = Guarded.guards_run
