use Rattle.std.proofs.Common.{◌≡◌, ◌≤◌, length}
use Rattle.code_rules.specs.Nests.{AreSoonest}
use Rattle.code_rules.proofs.nests.soonest_ends.Given as goal

abbrev pub invariant-numbers : goal.invariant-numbers
invariant-numbers l = AreSoonest l.instrs l.at l.ends × (length l.ends ≡ length l.instrs) × (l.at ≤ length l.instrs)

abbrev pub decreases-numbers : goal.decreases-numbers
decreases-numbers l = l.at
