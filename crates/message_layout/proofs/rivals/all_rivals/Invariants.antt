use Rattle.std.proofs.Common.{◌≡◌, ℕ, List, Bool, length, slice_get, Some}
use Rattle.message_layout.specs.inner.Rivals.{AreRivals}
use Rattle.message_layout.proofs.rivals.all_rivals.Given as goal

abbrev pub invariant-loop-m : goal.invariant-loop-m
invariant-loop-m l = record {
  counted : length l.rivals ≡ l.m;
  marked : (k : ℕ) (row : List Bool) → slice_get l.rivals k ≡ Some row → AreRivals l.shapes k row;
}
