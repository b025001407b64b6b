use Rattle.tap_exec.specs.Semantics.{semantics_of}
use Rattle.world_run.proofs.Lines.{none_written}
use Rattle.world_run.proofs.writing.write_last.Goals as goal

pub loop-label-init : goal.loop-label-init
loop-label-init c = none_written (semantics_of c.args.world.now.system) c.args.world.now.last.sent _ c.requires.fit
