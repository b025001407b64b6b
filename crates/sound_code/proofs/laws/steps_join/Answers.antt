use Rattle.sound_code.proofs.Joined as Joined
use Rattle.sound_code.proofs.laws.steps_join.Goals as goal

pub returns : goal.returns
returns c = Joined.steps_join
