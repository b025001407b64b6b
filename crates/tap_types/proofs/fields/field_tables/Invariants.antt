use Rattle.std.proofs.Common.{◌≡◌, ◌++◌, drop, map}
use Rattle.tap_names.specs.MessageOffences.{field_names}
use Rattle.tap_types.specs.inner.Listed.{fields_in}
use Rattle.tap_types.proofs.fields.field_tables.Given as goal

abbrev pub invariant-messages : goal.invariant-messages
invariant-messages l = map fields_in l.found ++ map (λ m. field_names m.fields) (drop l.at l.messages) ≡ map (λ m. field_names m.fields) l.messages
