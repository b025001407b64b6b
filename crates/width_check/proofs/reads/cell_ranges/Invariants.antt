use Rattle.std.proofs.Common.{◌≡◌, ◌++◌, drop}
use Rattle.tap_base.specs.Ranges.{ranges_of}
use Rattle.width_check.proofs.reads.cell_ranges.Given as goal

abbrev pub invariant-loop-var : goal.invariant-loop-var
invariant-loop-var l = l.all ++ ranges_of (drop l.var-index l.vars) ≡ ranges_of l.vars
