use Rattle.checked_systems.proofs.Systems.{checked_sound}
use Rattle.checked_systems.proofs.laws.checked_is_sound.Goals as goal

pub returns : goal.returns
returns c = checked_sound
