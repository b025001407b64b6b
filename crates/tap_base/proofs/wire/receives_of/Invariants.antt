use Rattle.std.proofs.Common.{◌≡◌, ◌++◌, drop}
use Rattle.tap_base.specs.ListWords.{by_number}
use Rattle.tap_base.specs.Wires.{received_by_process, receives_of}
use Rattle.tap_base.proofs.wire.receives_of.Given as goal

abbrev pub invariant-processes : goal.invariant-processes
invariant-processes l = l.found ++ by_number l.at received_by_process (drop l.at l.processes) ≡ receives_of l.processes
