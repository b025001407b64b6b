use Rattle.sound_bodies.proofs.SoundSystem.{bodies_sound}
use Rattle.sound_bodies.proofs.laws.bodies_are_sound.Goals as goal

pub returns : goal.returns
returns c = bodies_sound
