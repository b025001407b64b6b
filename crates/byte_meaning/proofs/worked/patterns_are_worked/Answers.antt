use Rattle.byte_meaning.proofs.Patterns.{by_fixed_bit, by_padding, not_by_free_bits}
use Rattle.byte_meaning.proofs.worked.patterns_are_worked.Goals as goal

pub returns-clause-fixed : goal.returns-clause-fixed
returns-clause-fixed c = by_fixed_bit

pub returns-clause-padding : goal.returns-clause-padding
returns-clause-padding c = by_padding

pub returns-clause-free : goal.returns-clause-free
returns-clause-free c = not_by_free_bits
