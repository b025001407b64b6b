use Rattle.std.proofs.Common.{◌≡◌, ◌<◌, drop, length, slice_get}
use Rattle.register_code.specs.Instructions.{ones}
use Rattle.drawn_steps.proofs.selecting.place_of_one.Given as goal

abbrev pub invariant-loop-at : goal.invariant-loop-at
invariant-loop-at l = record {
  stands : slice_get (ones l.at (drop l.at l.xs)) l.left ≡ slice_get (ones 0 l.xs) l.others;
  inside : l.left < length (ones l.at (drop l.at l.xs));
}
