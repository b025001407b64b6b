use Rattle.std.proofs.Common.{◌≡◌, sym, ◌∙◌, ap, subst, List, [], ◌∷◌, ◌++◌, false, take}
use Rattle.std.specs.Prelude.{ℕ}
use Rattle.tap_base.specs.declared.ast.AstField.{AstField}
use Rattle.tap_base.specs.declared.refusal.Refusal.{Refusal}
use Rattle.tap_names.specs.MessageOffences.{field_names, field_offences}
use Rattle.tap_names.specs.Tables.{entries_of, is_among, names_in}
use Rattle.tap_base.proofs.LoopFacts.{behind_on}
use Rattle.tap_names.proofs.Loops.{listed_on}
use Rattle.tap_types.proofs.FieldTables.{fresh_field, here}
use Rattle.tap_types.proofs.fields.field_table.Goals as goal
use Rattle.tap_base.proofs.ListFacts.{none_first}

abbrev judged : List AstField → AstField → List Refusal
judged before f = field_offences (field_names before) f

pub declare-requires : goal.declare-requires
declare-requires c =
    let xs = c.args.fields.now in
    let i = c.fields.at in
    let x = c.index-fields-at.result in
    let h = c.fields.invariant.clear ∙ c.requires in
    let G : List (List ℕ) → Type 0 = λ z. is_among x.name.text z ≡ false in
    let H : List ℕ → Type 0 = λ z. is_among z (names_in (entries_of c.fields.table)) ≡ false in
    subst H (sym c.as_str.ensures) (subst G (sym c.fields.invariant.names) (fresh_field xs i x c.fields-test.true c.index-fields-at.is h))

pub fields-preserved : goal.fields-preserved
fields-preserved c =
    let xs = c.args.fields.now in
    let i = c.fields.at in
    let x = c.index-fields-at.result in
    let l = c.fields-test.true in
    let q = c.index-fields-at.is in
    let h = c.fields.invariant.clear ∙ c.requires in
    record {
      clear = behind_on judged xs i x l q (none_first (judged (take i xs) x) _ (here xs i x l q h)) c.fields.invariant.clear;
      names = listed_on (λ (f : AstField). f.name.text) xs i x l q tt (entries_of c.fields.table) _ (c.in_ok-declare.ensures ∙ ap (λ z. entries_of c.fields.table ++ (z, tt) ∷ []) c.as_str.ensures) c.fields.invariant.names;
    }
