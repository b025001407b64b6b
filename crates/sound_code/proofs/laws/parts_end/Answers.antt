use Rattle.sound_code.proofs.Ends as Ends
use Rattle.sound_code.proofs.laws.parts_end.Goals as goal

pub returns : goal.returns
returns c = Ends.parts_end
