use Rattle.tap_expr.proofs.ExprEnds.{one_front}
use Rattle.tap_expr.proofs.laws.one_front.Goals as goal

pub returns : goal.returns
returns c = one_front
