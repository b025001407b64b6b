use Rattle.run_text.proofs.FewLines.{few_lines}
use Rattle.run_text.proofs.laws.few_lines.Goals as goal

pub returns : goal.returns
returns c = few_lines
