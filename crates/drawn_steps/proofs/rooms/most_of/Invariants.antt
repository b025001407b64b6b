use Rattle.drawn_steps.proofs.Roomy.{IsMostSoFar}
use Rattle.drawn_steps.proofs.rooms.most_of.Given as goal

abbrev pub invariant-loop-action : goal.invariant-loop-action
invariant-loop-action l = IsMostSoFar l.messages l.actions l.action-index l.most
