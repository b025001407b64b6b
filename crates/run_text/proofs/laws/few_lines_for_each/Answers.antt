use Rattle.run_text.proofs.FewLines.{few_lines_for_each}
use Rattle.run_text.proofs.laws.few_lines_for_each.Goals as goal

pub returns : goal.returns
returns c = few_lines_for_each
