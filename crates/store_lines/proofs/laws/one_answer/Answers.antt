use Rattle.store_lines.proofs.Given.{one_answer}
use Rattle.store_lines.proofs.laws.one_answer.Goals as goal

pub returns : goal.returns
returns c = one_answer
