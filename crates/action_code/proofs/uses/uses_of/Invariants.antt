use Rattle.action_code.proofs.Used.{IsSoFar}
use Rattle.action_code.proofs.uses.uses_of.Given as goal

abbrev pub invariant-loop-at : goal.invariant-loop-at
invariant-loop-at l = IsSoFar l.messages l.instrs l.at l.weight l.uses
