use Rattle.std.proofs.Common.{◌≡◌, ◌++◌, drop}
use Rattle.std.specs.Option.{option_map}
use Rattle.tap_types.specs.ActionOffences.{actions_offences}
use Rattle.tap_base.specs.Option.{each}
use Rattle.tap_types.specs.Systems.{action_of}
use Rattle.tap_types.specs.inner.Typing.{scope_of}
use Rattle.tap_types.proofs.actions.type_actions.Given as goal

abbrev pub invariant-actions : goal.invariant-actions
invariant-actions l = record {
  clear : actions_offences (scope_of l.names) (drop l.action-index l.actions) ≡ actions_offences (scope_of l.names) l.actions;
  named : option_map (λ rest. l.found ++ rest) (each (action_of (scope_of l.names)) (drop l.action-index l.actions)) ≡ each (action_of (scope_of l.names)) l.actions;
}
