use Rattle.std.proofs.Common.{◌∙◌, ap, sym}
use Rattle.std.specs.Option.{option_and_then, option_copied}
use Rattle.tap_names.specs.declared.table.Table.{Table}
use Rattle.tap_types.specs.Scopes.{number_of}
use Rattle.tap_types.specs.inner.Listed.{fields_in}
use Rattle.tap_types.proofs.FieldTables.{few_names, numbers_alike}
use Rattle.tap_types.proofs.scope.Names.field.Goals as goal

pub number_among-requires : goal.number_among-requires
number_among-requires c =
    let s = c.args.self.now in
    few_names s.field_tables.now s.messages.now c.args.message c.in_ok-fields.fields.now c.requires.named c.requires.fields (sym c.item.ensures ∙ ap option_copied c.in_ok-fields.was)

pub returns : goal.returns
returns c =
    let s = c.args.self.now in
    let x = c.args.name.now in
    c.number_among.ensures
    ∙ ap (option_and_then (λ (t : Table (Unit {0})). number_of x (fields_in t))) (sym (sym c.item.ensures ∙ ap option_copied c.in_ok-fields.was))
    ∙ numbers_alike s.field_tables.now s.messages.now c.args.message x c.requires.named
