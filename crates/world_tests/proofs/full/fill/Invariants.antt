use Rattle.std.proofs.Common.{◌≡◌}
use Rattle.world_tests.proofs.full.fill.Given as goal

abbrev pub invariant-loop-i : goal.invariant-loop-i
invariant-loop-i l = l.world.system ≡ l.fn.world.system
