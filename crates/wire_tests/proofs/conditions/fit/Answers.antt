use Rattle.std.proofs.Common.{arith}
use Rattle.wire_tests.proofs.Places.{fields_by_place}
use Rattle.wire_tests.proofs.conditions.fit.Goals as goal

pub returns : goal.returns
returns c = fields_by_place c.args.fields.now c.args.values.now (omega arith) (λ k d e less. c.loop-i.invariant k d e (omega arith))
