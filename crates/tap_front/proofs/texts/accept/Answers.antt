use Rattle.std.proofs.Common.{Err, sym, subst}
use Rattle.tap_base.specs.declared.system.System.{System}
use Rattle.tap_front.specs.Accepting.{TellsApart}
use Rattle.tap_front.specs.inner.Faults.{LaysOut}
use Rattle.tap_front.proofs.Named.{named}
use Rattle.tap_front.proofs.TreesRead.{not_accepted, not_checked, not_laid_out, not_resolved}
use Rattle.tap_front.proofs.Wholes.{read_has_parts}
use Rattle.tap_front.proofs.texts.accept.Goals as goal

pub returns-in_err-tree-clause-reads : goal.returns-in_err-tree-clause-reads
returns-in_err-tree-clause-reads c = not_accepted c.args.text.now _ c.in_err-tree.ensures _ c.from_residual.ensures.1

pub returns-in_err-system-clause-reads : goal.returns-in_err-system-clause-reads
returns-in_err-system-clause-reads c = not_resolved c.args.text.now c.in_ok-tree.tree _ c.in_ok-tree.ensures c.in_err-system.ensures.judged _ c.from_residual-in_err-system.ensures.1

pub checked_of-requires : goal.checked_of-requires
checked_of-requires c = c.in_ok-system.ensures.whole (read_has_parts c.args.text.now c.in_ok-tree.tree c.in_ok-tree.ensures)

pub returns-in_err-checked-clause-reads : goal.returns-in_err-checked-clause-reads
returns-in_err-checked-clause-reads c =
    not_checked c.args.text.now c.in_ok-tree.tree c.in_ok-system.system _ c.in_ok-tree.ensures
    (record { faultless = c.in_ok-system.ensures.judged.0; named = c.in_ok-system.ensures.judged.1 }) c.in_err-checked.ensures _ c.from_residual-in_err-checked.ensures.1

pub returns-in_err-lays_out-clause-reads : goal.returns-in_err-lays_out-clause-reads
returns-in_err-lays_out-clause-reads c =
    let P : System → Type 0 = λ s. LaysOut {A = Unit {0}} s (Err c.in_err-lays_out.field-0.0) in
    not_laid_out c.args.text.now c.in_ok-tree.tree c.in_ok-system.system c.in_ok-checked.checked _ c.in_ok-tree.ensures
    (record { faultless = c.in_ok-system.ensures.judged.0; named = c.in_ok-system.ensures.judged.1 }) c.in_ok-checked.ensures
    (subst P c.system.ensures.system c.in_err-lays_out.ensures) _ c.from_residual-in_err-lays_out.ensures.1

pub returns-clause-named : goal.returns-clause-named
returns-clause-named c =
    let P : System → Type 0 = λ s. TellsApart s in
    subst P (sym c.in_ok-checked.ensures.0)
    (named c.args.text.now c.in_ok-tree.tree c.in_ok-system.system c.in_ok-tree.ensures
    (record { faultless = c.in_ok-system.ensures.judged.0; named = c.in_ok-system.ensures.judged.1 }))
