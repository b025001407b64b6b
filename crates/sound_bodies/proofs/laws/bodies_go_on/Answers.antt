use Rattle.sound_bodies.proofs.SoundSystem.{bodies_go}
use Rattle.sound_bodies.proofs.laws.bodies_go_on.Goals as goal

pub returns : goal.returns
returns c = bodies_go
