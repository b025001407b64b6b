use Rattle.tap_expr.proofs.ExprEnds.{one_tree}
use Rattle.tap_expr.proofs.ExprOne.{one_reading}
use Rattle.tap_expr.proofs.laws.one_tree.Goals as goal

pub returns-clause-tree : goal.returns-clause-tree
returns-clause-tree c = one_tree

pub returns-clause-reading : goal.returns-clause-reading
returns-clause-reading c = one_reading
