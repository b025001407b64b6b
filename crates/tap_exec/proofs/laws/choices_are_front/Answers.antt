use Rattle.tap_exec.proofs.Fronts.{all_front}
use Rattle.tap_exec.proofs.laws.choices_are_front.Goals as goal

pub returns : goal.returns
returns c = all_front
