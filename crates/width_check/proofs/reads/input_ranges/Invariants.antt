use Rattle.std.proofs.Common.{◌≡◌, ◌++◌, drop}
use Rattle.tap_base.specs.Scope.{input_ranges}
use Rattle.width_check.proofs.reads.input_ranges.Given as goal

abbrev pub invariant-loop-input : goal.invariant-loop-input
invariant-loop-input l = l.all ++ input_ranges (drop l.input-index l.inputs) ≡ input_ranges l.inputs
