use Rattle.tap_exec.specs.Semantics.{semantics_of}
use Rattle.abstract_run.proofs.GoesOn.{fall_can}
use Rattle.abstract_run.proofs.Idle.{has_channels}
use Rattle.abstract_run.proofs.steps.fall_step.Goals as goal

pub fall-requires-clause-channels : goal.fall-requires-clause-channels
fall-requires-clause-channels c = has_channels (semantics_of c.args.system.now) c.args.state.now c.requires.fits c.requires.safe.begins.few

pub fall-requires-clause-can : goal.fall-requires-clause-can
fall-requires-clause-can c = fall_can (semantics_of c.args.system.now) c.args.state.now c.requires.fits
