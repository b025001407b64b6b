use Rattle.std.proofs.Common.{◌≡◌, ◌+◌, ◌++◌, replicate, vec_len, vec_capacity}
use Rattle.code_steps.proofs.spare.push_zeros.Given as goal

abbrev pub invariant-loop-at : goal.invariant-loop-at
invariant-loop-at l = record {
  items : l.items.items ≡ l.fn.items.items ++ replicate l.at 0;
  room : vec_capacity l.items ≡ vec_capacity l.fn.items;
  many : vec_len l.items ≡ vec_len l.fn.items + l.at;
}
