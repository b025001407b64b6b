use Rattle.std.proofs.Common.{◌+◌, ◌<◌, ◌≤◌, length}
use Rattle.std.specs.Prelude.{IfSome}
use Rattle.code_rules.proofs.NestFacts.{Covers, measure}
use Rattle.code_rules.proofs.nests.latest_behind.Given as goal

abbrev pub invariant-outward : goal.invariant-outward
invariant-outward l = Covers l.instrs (l.at + 1) l.begin × IfSome l.begin (λ b. (b < length l.begins) × (b ≤ l.at))

abbrev pub decreases-outward : goal.decreases-outward
decreases-outward l = measure l.begin
