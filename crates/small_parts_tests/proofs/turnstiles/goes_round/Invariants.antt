use Rattle.std.proofs.Common.{◌≡◌}
use Rattle.small_parts_tests.proofs.turnstiles.goes_round.Given as goal

abbrev pub invariant-loop-name : goal.invariant-loop-name
invariant-loop-name g l = l.turnstile.places ≡ 3
