-- The levels of the grammar, as the printer names them.
use Rattle.tap_expr.specs.Grammar.{joined, negation, relation, factor, atom}
use Rattle.tap_expr.specs.Grammar as grammar
use Rattle.tap_printer.specs.declared.level.Level.{Level}
use Rattle.tap_printer.specs.declared.level.Level.TheVariants as level

abbrev pub as_level : Level → grammar.Level
as_level (level.Joined j) = joined j
as_level level.Negation = negation
as_level level.Relation = relation
as_level level.Factor = factor
as_level level.Atom = atom
