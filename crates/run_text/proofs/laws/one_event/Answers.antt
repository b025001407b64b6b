use Rattle.run_text.proofs.Lines.{one_event_line}
use Rattle.run_text.proofs.laws.one_event.Goals as goal

pub returns : goal.returns
returns c = one_event_line
