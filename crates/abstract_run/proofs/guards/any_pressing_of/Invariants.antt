use Rattle.std.proofs.Common.{◌≡◌, ◌&&◌, not, drop}
use Rattle.std.specs.List.{list_any}
use Rattle.tap_base.specs.declared.system.Action.{Action}
use Rattle.tap_base.specs.Option.{is_yes}
use Rattle.abstract_run.specs.inner.ComputedSemantics.{computed_guard}
use Rattle.abstract_run.specs.Enabled.{guard_holds}
use Rattle.abstract_run.specs.Step.{is_receive}
use Rattle.abstract_run.proofs.guards.any_pressing_of.Given as goal

abbrev pub invariant-loop-action : goal.invariant-loop-action
invariant-loop-action l =
    list_any (λ (a : Action). not (is_receive (computed_guard a.guard)) && is_yes (guard_holds l.state l.process (computed_guard a.guard))) (drop l.action-index l.actions)
    ≡ list_any (λ (a : Action). not (is_receive (computed_guard a.guard)) && is_yes (guard_holds l.state l.process (computed_guard a.guard))) l.actions
