use Rattle.std.proofs.Common.{◌≡◌, ◌+◌, ◌≤◌, ℕ, length, slice_get, Some, take}
use Rattle.std.specs.Prelude.{count_by}
use Rattle.code_rules.specs.Others.{is_other}
use Rattle.code_rules.proofs.truths.count_others.Given as goal

abbrev pub invariant-registers : goal.invariant-registers
invariant-registers l = record {
  counted : length l.table ≡ l.at + 1;
  each : (i k : ℕ) → slice_get l.table i ≡ Some k → k ≡ count_by is_other (take i l.ranges);
  others : l.others ≡ count_by is_other (take l.at l.ranges);
  few : l.others ≤ l.at;
}
