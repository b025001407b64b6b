use Rattle.std.proofs.Common.{refl, sym, subst}
use Rattle.message_layout.specs.inner.Rivals.{AreRivals}
use Rattle.message_layout.proofs.Rows.{no_marks}
use Rattle.message_layout.proofs.rivals.rivals_of.Goals as goal

pub returns : goal.returns
returns c =
    subst (AreRivals c.args.shapes.now c.args.m) (sym c.new.ensures)
    (no_marks _ refl c.args.shapes.now c.args.m c.as_slice.result.now (sym c.if-contains.ensures.value) (subst (AreRivals c.args.shapes.now c.args.m) (sym c.as_slice.ensures) c.in_ok-row.ensures))
