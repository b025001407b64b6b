use Rattle.trace_entries.proofs.EntryLines as lines
use Rattle.trace_entries.proofs.laws.one_entry.Goals as goal

pub returns : goal.returns
returns c = lines.one_line
