use Rattle.std.proofs.Common.{◌≡◌, true, rules}
use Rattle.machine_tests.proofs.Suited.{new_can_run}
use Rattle.machine_tests.proofs.runs.play.Goals as goal

pub run-requires-clause-can : goal.run-requires-clause-can
run-requires-clause-can g c =
    let yes : c.suits-suited.result ≡ true = search rules in
    new_can_run c.args.code.now c.code.result.now c.in_ok-machine.machine c.guard_before-held.new.machine _ 0 _ _ _ c.in_ok-timers.timers c.in_ok-out.out c.code.ensures.value (c.suits-suited.ensures yes) c.in_ok-machine.ensures c.guard_before-held.ensures c.in_ok-timers.ensures
    c.in_ok-out.ensures
