use Rattle.machine_tests.proofs.Suited.{AreSoFar, of_input}
use Rattle.machine_tests.proofs.suiting.all_within.Given as goal

abbrev pub invariant-loop-at : goal.invariant-loop-at
invariant-loop-at l = AreSoFar of_input l.inputs l.given l.at
