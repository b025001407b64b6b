use Rattle.std.proofs.Common.{◌∙◌, ap, sym}
use Rattle.std.specs.Prelude.{slice_get}
use Rattle.message_layout.proofs.Received.{fields_there, short_there}
use Rattle.message_layout.proofs.layout.Layout.fields.Goals as goal

pub returns-clause-each : goal.returns-clause-each
returns-clause-each c =
    fields_there c.self.inside.wire.messages c.args.message c.fields_of.result.now c.self.invariant.wire_is.fields
    (ap (λ ms. slice_get ms c.args.message) (sym c.as_slice.ensures) ∙ c.fields_of.ensures)

pub returns-clause-short : goal.returns-clause-short
returns-clause-short c =
    short_there c.self.inside.wire.messages c.args.message c.fields_of.result.now c.self.invariant.short
    (ap (λ ms. slice_get ms c.args.message) (sym c.as_slice.ensures) ∙ c.fields_of.ensures)
