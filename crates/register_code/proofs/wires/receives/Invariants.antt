use Rattle.std.proofs.Common.{◌≡◌, ◌++◌, drop}
use Rattle.tap_base.specs.ListWords.{by_number}
use Rattle.register_code.specs.Wires.{receives_of}
use Rattle.register_code.proofs.wires.receives.Given as goal

abbrev pub invariant-loop-at : goal.invariant-loop-at
invariant-loop-at l = l.all ++ by_number l.at receives_of (drop l.at l.processes) ≡ by_number 0 receives_of l.processes
