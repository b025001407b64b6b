use Rattle.std.proofs.Common.{◌≡◌, ◌≤◌, drop}
use Rattle.tap_base.specs.Scope.{free_fields}
use Rattle.width_check.specs.StmtOffences.{field_offences}
use Rattle.width_check.specs.inner.Reading.{scope_in}
use Rattle.width_check.proofs.sends.judge_fields.Given as goal

abbrev pub invariant-loop-field : goal.invariant-loop-field
invariant-loop-field l = record {
  few : l.at ≤ l.field-index;
  same : field_offences (scope_in l.reads) (free_fields (drop l.field-index l.fields)) (drop l.at l.values) ≡ field_offences (scope_in l.reads) (free_fields l.fields) l.values;
}
