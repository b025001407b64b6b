use Rattle.machine_tests.proofs.Suited.{guard_there}
use Rattle.machine_tests.proofs.runs.guard_before.Goals as goal

pub guard-requires-clause-guard : goal.guard-requires-clause-guard
guard-requires-clause-guard c = guard_there c.args.code.now c.code.result.now c.args.machine.now.process c.args.process 0 c.code.ensures.value c.requires.process (c.is_guarded.ensures c.if-is_guarded.true)
