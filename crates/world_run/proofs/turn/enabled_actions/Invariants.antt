use Rattle.world_run.specs.inner.Serving.{AreEnabled, said_by}
use Rattle.world_run.proofs.turn.enabled_actions.Given as goal

abbrev pub invariant-loop-action : goal.invariant-loop-action
invariant-loop-action l = AreEnabled (said_by l.given) l.state l.process l.action l.told
