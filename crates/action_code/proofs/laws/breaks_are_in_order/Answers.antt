use Rattle.action_code.proofs.Ordered.{breaks_in_order}
use Rattle.action_code.proofs.laws.breaks_are_in_order.Goals as goal

pub returns : goal.returns
returns c = breaks_in_order
