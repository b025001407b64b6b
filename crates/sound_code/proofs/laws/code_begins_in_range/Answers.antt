use Rattle.sound_code.proofs.Begins as Begins
use Rattle.sound_code.proofs.laws.code_begins_in_range.Goals as goal

pub returns : goal.returns
returns c = Begins.code_begins_in_range
