use Rattle.std.proofs.Common.{◌≡◌, ◌+◌, ◌++◌, map, take, vec_len, vec_capacity}
use Rattle.code_steps.proofs.spare.push_lows.Given as goal

abbrev pub invariant-loop-temporary : goal.invariant-loop-temporary
invariant-loop-temporary l = record {
  items : l.items.items ≡ l.fn.items.items ++ map (λ t. t.lo) (take l.temporary-index l.temporaries);
  room : vec_capacity l.items ≡ vec_capacity l.fn.items;
  many : vec_len l.items ≡ vec_len l.fn.items + l.temporary-index;
}
