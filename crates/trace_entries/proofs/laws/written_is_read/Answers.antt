use Rattle.trace_entries.proofs.EntryLines as lines
use Rattle.trace_entries.proofs.laws.written_is_read.Goals as goal

pub returns : goal.returns
returns c = lines.written_is_read
