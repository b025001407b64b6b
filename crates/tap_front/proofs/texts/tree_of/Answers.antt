use Rattle.std.proofs.Common.{◌≤◌, List, length, sym, subst, arith}
use Rattle.tap_base.specs.declared.refusal.Refusal.{Refusal}
use Rattle.tap_base.specs.declared.token.Token.{Token}
use Rattle.tap_parser.specs.inner.Texts.{TextAnswers}
use Rattle.tap_front.specs.Accepting.{longest_text}
use Rattle.tap_front.specs.Offences.{Misspells, too_long, unlexed}
use Rattle.tap_front.proofs.TreesRead.{reads_tokens}
use Rattle.tap_front.proofs.texts.tree_of.Goals as goal

pub returns-then-text-gt-LONGEST_TEXT : goal.returns-then-text-gt-LONGEST_TEXT
returns-then-text-gt-LONGEST_TEXT c = too_long (omega arith)

pub returns-in-Ok : goal.returns-in-Ok
returns-in-Ok c =
    let sized : length c.args.text.now ≤ longest_text = omega arith in
    let P : List Token → Type 0 = λ z. TextAnswers c.args.text.now z c.parse.result in
    reads_tokens c.args.text.now _ sized c.in-Ok.ensures.outcome c.parse.result (subst P c.as_slice.ensures c.parse.ensures)

pub returns-in-Err-Refused : goal.returns-in-Err-Refused
returns-in-Err-Refused c =
    let sized : length c.args.text.now ≤ longest_text = omega arith in
    let P : Refusal → Type 0 = λ r. Misspells c.args.text.now r in
    subst P (sym c.in-Err-Refused.refusal-is) (unlexed sized (rw c.in-Err-Refused.field-0-is at c.in-Err-Refused.ensures.outcome))
