use Rattle.std.proofs.Common.{◌≡◌, ◌<◌, ℕ, length}
use Rattle.message_layout.specs.inner.Rivals.{IsMark, is_rival}
use Rattle.message_layout.proofs.rivals.marked_rivals.Given as goal

abbrev pub invariant-loop-n : goal.invariant-loop-n
invariant-loop-n l = record {
  counted : length l.row ≡ l.n;
  marked : (k : ℕ) → k < l.n → IsMark l.shapes l.m k (is_rival l.row k);
}
