use Rattle.machine_tests.proofs.Suited.{AreSoFar, of_field}
use Rattle.machine_tests.proofs.suiting.all_in_fields.Given as goal

abbrev pub invariant-loop-at : goal.invariant-loop-at
invariant-loop-at l = AreSoFar of_field l.fields l.given l.at
