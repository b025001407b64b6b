use Rattle.std.proofs.Common.{take}
use Rattle.action_machine.specs.Machines.{AreAtMost, counters_of}
use Rattle.action_machine.proofs.making.most_counters.Given as goal

abbrev pub invariant-loop-action : goal.invariant-loop-action
invariant-loop-action l = AreAtMost counters_of (take l.action-index l.actions) l.most
