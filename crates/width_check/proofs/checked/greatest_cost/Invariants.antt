use Rattle.std.proofs.Common.{◌≡◌, drop, map, max}
use Rattle.width_check.specs.Cost as spec
use Rattle.width_check.proofs.checked.greatest_cost.Given as goal

abbrev pub invariant-loop-action : goal.invariant-loop-action
invariant-loop-action l = max l.most (spec.greatest (map spec.action_cost (drop l.action-index l.actions))) ≡ spec.greatest (map spec.action_cost l.actions)
