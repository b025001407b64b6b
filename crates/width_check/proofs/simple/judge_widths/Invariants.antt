use Rattle.std.proofs.Common.{◌≡◌, drop}
use Rattle.width_check.specs.StmtOffences.{width_offences}
use Rattle.width_check.specs.inner.Reading.{scope_in}
use Rattle.width_check.proofs.simple.judge_widths.Given as goal

abbrev pub invariant-loop-at : goal.invariant-loop-at
invariant-loop-at l = width_offences (scope_in l.reads) (drop l.at l.targets) (drop l.at l.values) ≡ width_offences (scope_in l.reads) l.targets l.values
