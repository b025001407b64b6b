use Rattle.sound_values.proofs.Values.{sound}
use Rattle.sound_values.proofs.laws.values_are_sound.Goals as goal

pub returns : goal.returns
returns c = λ s cells inputs received e range read resolved judged. sound s cells inputs received read e range resolved judged
