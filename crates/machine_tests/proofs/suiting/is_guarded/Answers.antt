use Rattle.machine_tests.proofs.Suited.{guarded}
use Rattle.machine_tests.proofs.suiting.is_guarded.Goals as goal

pub returns : goal.returns
returns c = λ t. guarded c.args.code.now c.args.process c.args.action c.process_at-process.result.now c.action_at.result.now c.process_at-process.ensures c.action_at.ensures (c.is_local.ensures t)
