use Rattle.code_draws.proofs.Drawing as Drawing
use Rattle.code_draws.proofs.laws.choices_are_draws.Goals as goal

pub returns : goal.returns
returns c = Drawing.choices_are_draws
