use Rattle.std.proofs.Common.{◌≡◌, ◌++◌, drop, map}
use Rattle.tap_base.specs.Lists.{Each}
use Rattle.tap_base.specs.Resolved.{IsField}
use Rattle.tap_base.specs.Scope.{value_range}
use Rattle.width_check.proofs.reads.field_ranges.Given as goal

abbrev pub invariant-loop-field : goal.invariant-loop-field
invariant-loop-field l = record {
  rest : Each IsField (drop l.field-index l.fields);
  same : l.all ++ map value_range (drop l.field-index l.fields) ≡ map value_range l.fields;
}
