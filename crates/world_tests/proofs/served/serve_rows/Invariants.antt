use Rattle.std.proofs.Common.{◌≡◌}
use Rattle.world_tests.proofs.served.serve_rows.Given as goal

abbrev pub invariant-loop-line : goal.invariant-loop-line
invariant-loop-line g l = l.world.system ≡ l.fn.world.system
