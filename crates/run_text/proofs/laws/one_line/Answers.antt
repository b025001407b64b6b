use Rattle.run_text.proofs.LineLabels.{one_line}
use Rattle.run_text.proofs.laws.one_line.Goals as goal

pub returns : goal.returns
returns c = one_line
