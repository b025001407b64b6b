use Rattle.std.proofs.Common.{◌≡◌, drop, flat_map}
use Rattle.width_check.specs.ExprOffences.{expr_offences}
use Rattle.width_check.specs.inner.Reading.{scope_in}
use Rattle.width_check.proofs.simple.judge_values.Given as goal

abbrev pub invariant-loop-value : goal.invariant-loop-value
invariant-loop-value l = flat_map (expr_offences (scope_in l.reads)) (drop l.value-index l.values) ≡ flat_map (expr_offences (scope_in l.reads)) l.values
