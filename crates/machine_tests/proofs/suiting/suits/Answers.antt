use Rattle.std.proofs.Common.{◌≡◌, true, rules, arith}
use Rattle.machine_tests.proofs.Suited.{suited}
use Rattle.machine_tests.proofs.suiting.suits.Goals as goal

pub returns : goal.returns
returns c = λ t.
    let heard : c.hears.result ≡ true = search rules in
    let counted : c.process_at-process.result.now.timers ≡ c.args.timers = omega arith in
    suited c.args.code.now c.args.process c.args.action c.args.timers c.args.inputs.now c.args.received.now c.process_at-process.result.now c.action_at-action.result.now c.as_slice.result.now c.process_at-process.ensures c.action_at-action.ensures counted (c.hears.ensures heard) c.as_slice.ensures
    (c.all_within.ensures t)
