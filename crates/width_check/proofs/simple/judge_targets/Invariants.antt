use Rattle.std.proofs.Common.{◌≡◌, drop, flat_map}
use Rattle.width_check.specs.StmtOffences.{target_offences}
use Rattle.width_check.specs.inner.Reading.{scope_in}
use Rattle.width_check.proofs.simple.judge_targets.Given as goal

abbrev pub invariant-loop-target : goal.invariant-loop-target
invariant-loop-target l = flat_map (target_offences (scope_in l.reads)) (drop l.target-index l.targets) ≡ flat_map (target_offences (scope_in l.reads)) l.targets
