use Rattle.run_text.proofs.ScheduleBoth.{never_both}
use Rattle.run_text.proofs.laws.never_both.Goals as goal

pub returns : goal.returns
returns c = never_both
