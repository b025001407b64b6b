use Rattle.run_text.proofs.Lines as lines
use Rattle.run_text.proofs.laws.written_is_read.Goals as goal

pub returns : goal.returns
returns c = lines.written_is_read
