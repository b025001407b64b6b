use Rattle.std.proofs.Common.{◌≡◌, ◌++◌, drop}
use Rattle.tap_base.specs.Wires.{received_by_actions}
use Rattle.tap_base.proofs.wire.push_receives.Given as goal

abbrev pub invariant-actions : goal.invariant-actions
invariant-actions l = l.found ++ received_by_actions l.by (drop l.action-index l.actions) ≡ l.initial.found ++ received_by_actions l.by l.actions
