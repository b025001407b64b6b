use Rattle.std.proofs.Common.{◌≡◌, List, ℕ, subst}
use Rattle.tap_base.specs.declared.refusal.RefusalCode.TheVariants as code
use Rattle.tap_lexer.specs.Bytes.{start}
use Rattle.tap_expr.specs.ExprText.{refusal}
use Rattle.tap_front.specs.Accepting.{Accepted}
use Rattle.tap_front.specs.Offences.{Offends, misspelled, too_long}
use Rattle.tap_front.specs.declared.offence.Offence.TheVariants.{Coded}
use Rattle.tapc_core.proofs.TreesRead.{read_all, read_long}
use Rattle.tapc_core.proofs.files.read_system.Goals as goal

pub returns-in-TooLong-clause-refused : goal.returns-in-TooLong-clause-refused
returns-in-TooLong-clause-refused g c = λ o e.
    let same : Coded (refusal code.L0 start) ≡ o = cc in
    read_long Offends (λ text h. misspelled (too_long h)) _ _ c.in_ok-text.field-0 o c.in-TooLong.is same c.in_ok-text.ensures.text

pub returns-in_ok-accept-in-Whole-clause-accepted : goal.returns-in_ok-accept-in-Whole-clause-accepted
returns-in_ok-accept-in-Whole-clause-accepted g c =
    let P : List ℕ → Type 0 = λ text. Accepted text c.in_ok-accept-in-Whole.field-0 in
    read_all P _ _ c.in_ok-text.field-0 c.in-Whole.text c.in-Whole.is c.in_ok-text.ensures.text (subst P c.as_slice.ensures c.in_ok-accept-in-Whole.ensures.reads)
