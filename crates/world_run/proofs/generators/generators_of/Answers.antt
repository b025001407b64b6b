use Rattle.world_run.proofs.DrawnActs.{generators_more}
use Rattle.world_run.proofs.generators.generators_of.Goals as goal

pub loop-process-preserved : goal.loop-process-preserved
loop-process-preserved c = generators_more c.args.seed c.loop-process.process c.loop-process.generators _ c.generator_of.result c.loop-process.invariant c.generator_of.ensures c.in_ok-push.ensures.ok
