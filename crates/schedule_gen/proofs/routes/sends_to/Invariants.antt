use Rattle.std.proofs.Common.{◌≡◌, drop}
use Rattle.std.specs.List.{list_any}
use Rattle.tap_base.specs.declared.system.Action.{Action}
use Rattle.tap_base.specs.Parts.{all_deeds}
use Rattle.schedule_gen.specs.Sending.{send_to_among}
use Rattle.schedule_gen.proofs.routes.sends_to.Given as goal

abbrev pub invariant-loop-action : goal.invariant-loop-action
invariant-loop-action l = list_any (λ (a : Action). send_to_among l.to (all_deeds a.body)) (drop l.action-index l.fn.process.actions) ≡ list_any (λ (a : Action). send_to_among l.to (all_deeds a.body)) l.fn.process.actions
