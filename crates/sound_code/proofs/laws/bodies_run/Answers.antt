use Rattle.sound_code.proofs.Reached as Reached
use Rattle.sound_code.proofs.laws.bodies_run.Goals as goal

pub returns : goal.returns
returns c = Reached.bodies_run
