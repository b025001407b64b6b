use Rattle.tap_expr.proofs.ExprEnds.{not_both, same_code}
use Rattle.tap_expr.proofs.laws.one_end.Goals as goal

pub returns : goal.returns
returns c = λ text tokens r o. (not_both o, λ s p. same_code o p)
