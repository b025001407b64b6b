use Rattle.store_lines.proofs.Given.{in_order}
use Rattle.store_lines.proofs.laws.in_order.Goals as goal

pub returns : goal.returns
returns c = in_order
