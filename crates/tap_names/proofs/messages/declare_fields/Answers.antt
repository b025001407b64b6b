use Rattle.std.proofs.Common.{◌≡◌, ◌∙◌, ap, subst, map, Some, List, [], ◌∷◌, ◌++◌, arith}
use Rattle.std.specs.Prelude.{ℕ}
use Rattle.tap_base.specs.declared.ast.AstField.{AstField}
use Rattle.tap_base.specs.declared.refusal.Refusal.{Refusal}
use Rattle.tap_names.specs.declared.fault.TypeFault.TheVariants as fault
use Rattle.tap_names.specs.MessageOffences.{field_names, field_offences, fields_offences}
use Rattle.tap_base.specs.ListWords.{first}
use Rattle.tap_names.specs.Names.{field_of}
use Rattle.tap_names.specs.Tables.{entries_of}
use Rattle.tap_base.proofs.LoopFacts.{behind_on, taken_on}
use Rattle.tap_names.proofs.Loops.{behind_fault, counted, listed_on, passed}
use Rattle.tap_names.proofs.messages.declare_fields.Goals as goal

abbrev judged : List AstField → AstField → List Refusal
judged before f = field_offences (field_names before) f

abbrev name : AstField → List ℕ
name f = f.name.text

pub returns-in_err-check_field-clause-judged : goal.returns-in_err-check_field-clause-judged
returns-in_err-check_field-clause-judged c =
    let xs = c.args.fields.now in
    let i = c.fields.at in
    let x = c.index-fields-at.result in
    let r = c.in_err-check_field.field-0.0 in
    let G : List (List ℕ) → Type 0 = λ z. first (field_offences z x) ≡ Some r in
    passed (fields_offences xs) (Some (map field_of xs)) _ (fault.Refused r) c.from_residual.ensures.1
    (behind_fault judged xs i x c.fields-test.true c.index-fields-at.is (fault.Refused r) (subst G c.fields.invariant.listed c.in_err-check_field.ensures.judged) c.fields.invariant.clear)

pub fields-preserved : goal.fields-preserved
fields-preserved c =
    let xs = c.args.fields.now in
    let i = c.fields.at in
    let x = c.index-fields-at.result in
    let l = c.fields-test.true in
    let q = c.index-fields-at.is in
    let G : List (List ℕ) → Type 0 = λ z. field_offences z x ≡ [] in
    let n = counted name xs i (entries_of c.fields.table) (omega (arith, l)) c.fields.invariant.listed in
    record {
      clear = behind_on judged xs i x l q (subst G c.fields.invariant.listed c.in_ok-check_field.ensures.judged) c.fields.invariant.clear;
      listed = listed_on name xs i x l q tt (entries_of c.fields.table) _ (c.in_ok-declare.ensures ∙ ap (λ z. entries_of c.fields.table ++ (z, tt) ∷ []) c.as_str.ensures) c.fields.invariant.listed;
      named = taken_on field_of xs i x l q c.fields.found _ (c.in_ok-push.ensures.ok ∙ ap (λ z. c.fields.found ++ z ∷ []) c.in_ok-named_field.ensures) c.fields.invariant.named;
      few = omega (arith, n, c.in_ok-check_field.ensures.few);
    }
