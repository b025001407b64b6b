use Rattle.byte_meaning.proofs.Apart.{systems_mean, wires_mean}
use Rattle.byte_meaning.proofs.laws.spellings_mean.Goals as goal

pub returns-clause-systems : goal.returns-clause-systems
returns-clause-systems c = systems_mean

pub returns-clause-wires : goal.returns-clause-wires
returns-clause-wires c = wires_mean
