use Rattle.std.proofs.Common.{◌≡◌, ◌++◌, take}
use Rattle.std.specs.List.{flat_map}
use Rattle.register_code.specs.Wires.{received_by}
use Rattle.register_code.proofs.wires.push_receives.Given as goal

abbrev pub invariant-loop-action : goal.invariant-loop-action
invariant-loop-action l = l.all ≡ l.fn.all ++ flat_map (received_by l.by) (take l.action-index l.actions)
