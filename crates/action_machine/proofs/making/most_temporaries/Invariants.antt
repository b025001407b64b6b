use Rattle.std.proofs.Common.{take}
use Rattle.action_machine.specs.Machines.{AreAtMost, temporaries_of}
use Rattle.action_machine.proofs.making.most_temporaries.Given as goal

abbrev pub invariant-loop-action : goal.invariant-loop-action
invariant-loop-action l = AreAtMost temporaries_of (take l.action-index l.actions) l.most
