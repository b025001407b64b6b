use Rattle.std.proofs.Common.{◌≡◌, ◌≤◌, drop, take, map}
use Rattle.tap_names.specs.MessageOffences.{field_names, field_offences, fields_offences}
use Rattle.tap_names.specs.Limits.{most_fields}
use Rattle.tap_base.specs.ListWords.{behind}
use Rattle.tap_names.specs.Names.{field_of}
use Rattle.tap_names.specs.Tables.{entries_of, names_in}
use Rattle.tap_names.proofs.messages.declare_fields.Given as goal

abbrev pub invariant-fields : goal.invariant-fields
invariant-fields l = record {
  clear : behind (λ before f. field_offences (field_names before) f) (take l.at l.fields) (drop l.at l.fields) ≡ fields_offences l.fields;
  listed : names_in (entries_of l.table) ≡ field_names (take l.at l.fields);
  named : l.found ≡ map field_of (take l.at l.fields);
  few : l.at ≤ most_fields;
}
