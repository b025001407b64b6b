use Rattle.std.proofs.Common.{◌≡◌, true, slice_get, Some, sym, ap, subst, ◌∙◌}
use Rattle.register_code.specs.declared.code.CodeMessage.{CodeMessage}
use Rattle.register_code.specs.Declarations.{field_fits}
use Rattle.std.specs.List.{list_all}
use Rattle.register_code.proofs.Passing.{all_at}
use Rattle.code_rules.proofs.sending.values_fit.Goals as goal

pub fit_fields-requires : goal.fit_fields-requires
fit_fields-requires c =
    let message_at : slice_get c.args.code.now.messages c.args.message ≡ Some c.in-Some.message.now = ap (λ xs. slice_get xs c.args.message) (sym c.as_slice.ensures) ∙ sym (c.in-Some.ensures) in
    subst (λ fs. list_all field_fits fs ≡ true) (sym c.as_slice-in-Some.ensures)
    (all_at (λ (m : CodeMessage). list_all field_fits m.fields) c.args.code.now.messages c.args.message c.in-Some.message.now c.requires message_at)
