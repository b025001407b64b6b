use Rattle.tap_types.proofs.Numbers.{held_on}
use Rattle.tap_types.proofs.receivers.hold_each.Goals as goal

pub receives-preserved : goal.receives-preserved
receives-preserved c = λ q.
    held_on c.args.receives.now c.receives.receive-index _ c.receives-test.true q _ _ (c.in_ok-insert.ensures.updates.0 q) (c.receives.invariant q)
