use Rattle.std.proofs.Common.{◌≡◌, drop, map}
use Rattle.tap_base.specs.ListWords.{joined}
use Rattle.tap_types.specs.SendOffences.{unreceived_by}
use Rattle.tap_types.specs.inner.Receiving.{is_taken}
use Rattle.tap_types.proofs.sends.check_actions.Given as goal

abbrev pub invariant-actions : goal.invariant-actions
invariant-actions l = joined (map (unreceived_by (is_taken l.receivers l.sender)) (drop l.action-index l.actions)) ≡ joined (map (unreceived_by (is_taken l.receivers l.sender)) l.actions)
