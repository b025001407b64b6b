use Rattle.std.proofs.Common.{◌≡◌, List, ℕ, subst}
use Rattle.tap_base.specs.declared.refusal.RefusalCode.TheVariants as code
use Rattle.tap_lexer.specs.Bytes.{start}
use Rattle.tap_expr.specs.ExprText.{refusal}
use Rattle.tap_front.specs.Accepting.{IsReadAs}
use Rattle.tap_front.specs.Offences.{IsMisspelling, too_long}
use Rattle.tap_front.specs.declared.offence.Offence.TheVariants.{Coded}
use Rattle.tapc_core.proofs.TreesRead.{read_all, read_long}
use Rattle.tapc_core.proofs.files.read_tree.Goals as goal

pub returns-clause-refused : goal.returns-clause-refused
returns-clause-refused g c = λ o e.
    let same : Coded (refusal code.L0 start) ≡ o = cc in
    read_long IsMisspelling (λ text h. too_long h) _ _ c.in_ok-text.field-0 o c.in-TooLong.is same c.in_ok-text.ensures.text

pub returns-in-Ok-clause-read : goal.returns-in-Ok-clause-read
returns-in-Ok-clause-read g c =
    let P : List ℕ → Type 0 = λ text. IsReadAs text c.in-Ok.tree in
    read_all P _ _ c.in_ok-text.field-0 c.in-Whole.text c.in-Whole.is c.in_ok-text.ensures.text (subst P c.as_slice.ensures c.in-Ok.ensures)
