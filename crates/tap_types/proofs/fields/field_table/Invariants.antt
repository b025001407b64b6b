use Rattle.std.proofs.Common.{◌≡◌, [], take, drop}
use Rattle.tap_base.specs.ListWords.{behind}
use Rattle.tap_names.specs.MessageOffences.{field_names, field_offences}
use Rattle.tap_names.specs.Tables.{entries_of, names_in}
use Rattle.tap_types.proofs.fields.field_table.Given as goal

abbrev pub invariant-fields : goal.invariant-fields
invariant-fields l = record {
  clear : behind (λ before f. field_offences (field_names before) f) (take l.at l.fields) (drop l.at l.fields) ≡ behind (λ before f. field_offences (field_names before) f) [] l.fields;
  names : names_in (entries_of l.table) ≡ field_names (take l.at l.fields);
}
