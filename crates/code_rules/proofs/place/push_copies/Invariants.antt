use Rattle.std.proofs.Common.{◌≡◌, ◌++◌, replicate}
use Rattle.code_rules.proofs.place.push_copies.Given as goal

abbrev pub invariant-loop-i : goal.invariant-loop-i
invariant-loop-i l = l.all ≡ l.fn.all ++ replicate l._i l.range
