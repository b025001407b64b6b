use Rattle.trace_entries.proofs.EntryLines as lines
use Rattle.trace_entries.proofs.laws.read_is_written.Goals as goal

pub returns : goal.returns
returns c = lines.read_is_written
