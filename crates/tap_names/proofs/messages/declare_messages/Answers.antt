use Rattle.std.proofs.Common.{◌≡◌, sym, ◌∙◌, ap, subst, List, [], ◌∷◌, ◌++◌, take, arith}
use Rattle.std.specs.Prelude.{ℕ, Result}
use Rattle.tap_base.specs.declared.ast.AstMessage.{AstMessage}
use Rattle.tap_base.specs.declared.refusal.Refusal.{Refusal}
use Rattle.tap_base.specs.Lists.{Each}
use Rattle.tap_names.specs.declared.fault.TypeFault.{TypeFault}
use Rattle.tap_names.specs.declared.messages.DeclaredMessages.{DeclaredMessages}
use Rattle.tap_names.specs.MessageOffences.{message_names, message_offences, messages_offences}
use Rattle.tap_names.specs.Messages.{DeclaresMessages}
use Rattle.tap_names.specs.Refusals.{Faults}
use Rattle.tap_names.specs.Names.{message_of}
use Rattle.tap_names.specs.Tables.{entries_of}
use Rattle.tap_names.specs.Messages.{HasFewFields}
use Rattle.std.proofs.lemmas.Option.{same_Some}
use Rattle.tap_base.proofs.ListFacts.{each_more}
use Rattle.tap_base.proofs.LoopFacts.{before_next, behind_on, taken_on}
use Rattle.tap_names.proofs.Loops.{behind_fault, counted, listed_on, passed_on}
use Rattle.tap_names.proofs.messages.declare_messages.Goals as goal

abbrev judged : List AstMessage → AstMessage → List Refusal
judged before m = message_offences (message_names before) m

abbrev name : AstMessage → List ℕ
name m = m.name.text

pub returns-in_err-declare_message : goal.returns-in_err-declare_message
returns-in_err-declare_message c =
    let xs = c.args.messages.now in
    let i = c.messages.at in
    let x = c.index-messages-at.result in
    let G : List (List ℕ) → Type 0 = λ z. Faults (message_offences z x) c.in_err-declare_message.field-0.0 in
    let P : Result DeclaredMessages TypeFault → Type 0 = λ r. DeclaresMessages xs r in
    passed_on P (messages_offences xs) (λ d h. h) _ _ c.from_residual.ensures.1
    (behind_fault judged xs i x c.messages-test.true c.index-messages-at.is _ (subst G c.messages.invariant.listed c.in_err-declare_message.ensures.judged) c.messages.invariant.clear)

pub messages-preserved : goal.messages-preserved
messages-preserved c =
    let xs = c.args.messages.now in
    let i = c.messages.at in
    let x = c.index-messages-at.result in
    let l = c.messages-test.true in
    let q = c.index-messages-at.is in
    let G : List (List ℕ) → Type 0 = λ z. message_offences z x ≡ [] in
    let E : List AstMessage → Type 0 = λ z. Each HasFewFields z in
    let n = counted name xs i (entries_of c.messages.table) (omega (arith, l)) c.messages.invariant.listed in
    record {
      clear = behind_on judged xs i x l q (subst G c.messages.invariant.listed c.in_ok-declare_message.ensures.judged.0) c.messages.invariant.clear;
      listed = listed_on name xs i x l q tt (entries_of c.messages.table) _ (c.in_ok-declare.ensures ∙ ap (λ z. entries_of c.messages.table ++ (z, tt) ∷ []) c.as_str.ensures) c.messages.invariant.listed;
      named = taken_on message_of xs i x l q c.messages.found _ (c.in_ok-push.ensures.ok ∙ ap (λ z. c.messages.found ++ z ∷ []) (same_Some _ _ (sym c.in_ok-declare_message.ensures.judged.1))) c.messages.invariant.named;
      few = omega (arith, n, c.in_ok-declare_message.ensures.room);
      fields = subst E (sym (before_next xs i x l q)) (each_more HasFewFields (take i xs) x c.messages.invariant.fields c.in_ok-declare_message.ensures.few);
    }
