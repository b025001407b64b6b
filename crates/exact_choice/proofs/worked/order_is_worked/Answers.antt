use Rattle.exact_choice.proofs.RejectsWorked.{by_arrival, not_by_channel}
use Rattle.exact_choice.proofs.worked.order_is_worked.Goals as goal

pub returns : goal.returns
returns c = record { arrival = by_arrival; channel = not_by_channel }
