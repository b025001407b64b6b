use Rattle.sound_code.proofs.Joined as Joined
use Rattle.sound_code.proofs.laws.runs_are_steps.Goals as goal

pub returns : goal.returns
returns c = Joined.runs_are_steps
