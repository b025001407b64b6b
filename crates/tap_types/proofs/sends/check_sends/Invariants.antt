use Rattle.std.proofs.Common.{◌≡◌, drop, map}
use Rattle.tap_base.specs.ListWords.{joined}
use Rattle.tap_types.specs.SendOffences.{unreceived_of}
use Rattle.tap_types.specs.inner.Receiving.{is_taken}
use Rattle.tap_types.proofs.sends.check_sends.Given as goal

abbrev pub invariant-processes : goal.invariant-processes
invariant-processes l = joined (map (unreceived_of (is_taken l.receivers)) (drop l.process-index l.processes)) ≡ joined (map (unreceived_of (is_taken l.receivers)) l.processes)
