use Rattle.std.proofs.Common.{◌≤◌, length}
use Rattle.std.specs.Prelude.{IfSome}
use Rattle.code_rules.proofs.NestFacts.{Meets, left_of}
use Rattle.code_rules.proofs.nests.soonest_from.Given as goal

abbrev pub invariant-onward : goal.invariant-onward
invariant-onward l = Meets l.instrs l.at l.end × IfSome l.end (λ e. l.at ≤ e)

abbrev pub decreases-onward : goal.decreases-onward
decreases-onward l = left_of (length l.instrs) l.end
