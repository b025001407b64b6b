use Rattle.sound_values.proofs.FieldValues.{given_fit, received_fit}
use Rattle.sound_values.proofs.laws.fields_are_sound.Goals as goal

pub returns-clause-received : goal.returns-clause-received
returns-clause-received c = received_fit

pub returns-clause-given : goal.returns-clause-given
returns-clause-given c = given_fit
