use Rattle.std.proofs.Common.{take}
use Rattle.std.specs.Prelude.{FitsSigned}
use Rattle.std.specs.Int.{w64}
use Rattle.tap_base.specs.Lists.{Each}
use Rattle.world_run.proofs.acts.read.Given as goal

abbrev pub invariant-loop-i : goal.invariant-loop-i
invariant-loop-i l = Each (FitsSigned w64) (take l.i l.choices)
