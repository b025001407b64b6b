use Rattle.byte_meaning.proofs.Receivers.{systems_say_the_same, wires_say_the_same}
use Rattle.byte_meaning.proofs.laws.receivers_are_the_same.Goals as goal

pub returns-clause-systems : goal.returns-clause-systems
returns-clause-systems c = systems_say_the_same

pub returns-clause-wires : goal.returns-clause-wires
returns-clause-wires c = wires_say_the_same
