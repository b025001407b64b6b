use Rattle.std.proofs.Common.{◌≡◌, replicate, None}
use Rattle.code_rules.proofs.nests.no_ends.Given as goal

abbrev pub invariant-entries : goal.invariant-entries
invariant-entries l = l.ends ≡ replicate l._i None
