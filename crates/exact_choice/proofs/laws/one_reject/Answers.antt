use Rattle.exact_choice.proofs.RejectsJoined.{one_rejected}
use Rattle.exact_choice.proofs.laws.one_reject.Goals as goal

pub returns : goal.returns
returns c = one_rejected
