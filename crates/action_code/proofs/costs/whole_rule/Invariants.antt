use Rattle.std.proofs.Common.{◌≡◌, ◌≤◌}
use Rattle.register_code.specs.Loops.{one_send, one_step, weight}
use Rattle.action_code.proofs.Spending.{so_far}
use Rattle.action_code.proofs.costs.whole_rule.Given as goal

abbrev pub invariant-loop-at : goal.invariant-loop-at
invariant-loop-at l = record {
  weight_is : l.weight ≡ weight l.instrs l.at;
  steps_are : l.steps ≡ so_far one_step l.instrs l.at;
  sent_are : l.sent ≡ so_far one_send l.instrs l.at;
  small : l.steps ≤ 16000000;
  fewer : l.sent ≤ l.steps;
  wide : l.weight ≤ 1048576000000;
}
