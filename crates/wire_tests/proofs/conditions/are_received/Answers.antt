use Rattle.std.proofs.Common.{◌<◌, arith}
use Rattle.wire_tests.proofs.Places.{each_by_place}
use Rattle.wire_tests.proofs.conditions.are_received.Goals as goal

pub returns : goal.returns
returns c = each_by_place (λ r. r.message < c.args.count) c.args.receives.now (λ k d less. c.loop-i.invariant k d (omega arith))
