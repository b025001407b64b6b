use Rattle.run_text.proofs.Lines as lines
use Rattle.run_text.proofs.laws.read_is_written.Goals as goal

pub returns : goal.returns
returns c = lines.read_is_written
