use Rattle.sound_code.proofs.Reached as Reached
use Rattle.sound_code.proofs.laws.steps_fit.Goals as goal

pub returns : goal.returns
returns c = Reached.steps_fit
