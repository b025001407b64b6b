use Rattle.std.proofs.Common.{◌≡◌, ◌+◌, length}
use Rattle.code_rules.specs.Nests.{AreLatest}
use Rattle.code_rules.proofs.nests.latest_begins.Given as goal

abbrev pub invariant-numbers : goal.invariant-numbers
invariant-numbers l = AreLatest l.instrs l.begins × (length l.begins ≡ l.at + 1)
