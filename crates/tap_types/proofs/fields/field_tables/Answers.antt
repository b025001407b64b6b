use Rattle.std.proofs.Common.{sym, ◌∙◌, ap, subst, List, ◌≡◌, []}
use Rattle.std.specs.Prelude.{ℕ}
use Rattle.tap_base.specs.declared.ast.AstField.{AstField}
use Rattle.tap_base.specs.declared.ast.AstMessage.{AstMessage}
use Rattle.tap_base.proofs.ListFacts.{each_index}
use Rattle.tap_names.specs.MessageOffences.{field_names, fields_offences}
use Rattle.tap_base.proofs.LoopFacts.{map_on}
use Rattle.tap_types.specs.inner.Listed.{HasFields, fields_in}
use Rattle.tap_types.proofs.fields.field_tables.Goals as goal

pub field_table-requires : goal.field_table-requires
field_table-requires c =
    let xs = c.args.messages.now in
    let x = c.index-messages-at.result in
    let G : List AstField → Type 0 = λ z. fields_offences z ≡ [] in
    subst G (sym c.as_slice.ensures) (subst HasFields (sym c.index-messages-at.is) (each_index HasFields xs c.messages.at x c.messages-test.true c.requires))

pub messages-preserved : goal.messages-preserved
messages-preserved c =
    let xs = c.args.messages.now in
    let N : AstMessage → List (List ℕ) = λ m. field_names m.fields in
    let x = c.index-messages-at.result in
    map_on N xs c.messages.at x c.messages-test.true c.index-messages-at.is fields_in c.in_ok-field_table.field-0 c.messages.found _ c.in_ok-push.ensures.ok
    (sym (c.in_ok-field_table.ensures ∙ ap field_names c.as_slice.ensures)) c.messages.invariant
