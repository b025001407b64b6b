use Rattle.std.proofs.Common.{◌<◌, ℕ, ℤ, get_or}
use Rattle.tap_base.specs.declared.wire.WireField.{WireField}
use Rattle.tap_base.specs.Interval.{IsIn, field_range}
use Rattle.wire_tests.proofs.conditions.fit.Given as goal

abbrev pub invariant-loop-i : goal.invariant-loop-i
invariant-loop-i l = (k : ℕ) (d : WireField) (e : ℤ) → k < l.i → IsIn (get_or l.values k e) (field_range (get_or l.fields k d))
