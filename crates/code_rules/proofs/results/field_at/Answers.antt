use Rattle.std.proofs.Common.{◌≡◌, slice_get, Some, sym, ap, ◌∙◌}
use Rattle.register_code.specs.declared.code.CodeMessage.{CodeMessage}
use Rattle.register_code.specs.Declarations.{field_fits}
use Rattle.std.specs.List.{list_all}
use Rattle.register_code.proofs.Passing.{all_at}
use Rattle.code_rules.proofs.results.field_at.Goals as goal

pub field_range-requires : goal.field_range-requires
field_range-requires c =
    let message_at : slice_get c.args.code.now.messages c.in-Some.message ≡ Some c.in-Some-item.message.now = ap (λ xs. slice_get xs c.in-Some.message) (sym c.as_slice.ensures) ∙ sym (c.in-Some-item.ensures) in
    let field_at : slice_get c.in-Some-item.message.now.fields c.args.field ≡ Some c.in-Some-item-2.field.now = ap (λ xs. slice_get xs c.args.field) (sym c.as_slice-2.ensures) ∙ sym (c.in-Some-item-2.ensures) in
    all_at field_fits c.in-Some-item.message.now.fields c.args.field c.in-Some-item-2.field.now
    (all_at (λ (m : CodeMessage). list_all field_fits m.fields) c.args.code.now.messages c.in-Some.message c.in-Some-item.message.now c.requires message_at) field_at
