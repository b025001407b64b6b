use Rattle.std.proofs.Common.{◌≡◌, ◌+◌, ◌≤◌, drop, length}
use Rattle.register_code.specs.Instructions.{ones}
use Rattle.drawn_steps.proofs.selecting.count_ones.Given as goal

abbrev pub invariant-loop-at : goal.invariant-loop-at
invariant-loop-at l = record {
  counted : l.count + length (ones l.at (drop l.at l.xs)) ≡ length (ones 0 l.xs);
  few : l.count ≤ l.at;
}
