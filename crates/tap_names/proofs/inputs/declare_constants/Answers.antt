use Rattle.std.proofs.Common.{◌≡◌, ◌∙◌, ap, subst, Some, List, [], ◌∷◌, ◌++◌, take}
use Rattle.std.specs.Prelude.{ℕ, Result}
use Rattle.tap_base.specs.declared.ast.AstConst.{AstConst}
use Rattle.tap_base.specs.declared.refusal.Refusal.{Refusal}
use Rattle.tap_names.specs.declared.fault.TypeFault.{TypeFault}
use Rattle.tap_names.specs.declared.fault.TypeFault.TheVariants as fault
use Rattle.tap_names.specs.declared.named.Named.{Named}
use Rattle.tap_names.specs.declared.named.Named.TheVariants as named
use Rattle.tap_names.specs.declared.table.Table.{Table}
use Rattle.tap_names.specs.Declarations.{consts_offences}
use Rattle.tap_names.specs.NameOffences.{name_offences}
use Rattle.tap_names.specs.VariableOffences.{const_names, const_offences}
use Rattle.tap_names.specs.inner.Declares.{DeclaresConstants}
use Rattle.tap_base.specs.ListWords.{first}
use Rattle.tap_names.specs.Tables.{Entry, entries_of, names_in}
use Rattle.tap_base.proofs.LoopFacts.{behind_on, taken_on}
use Rattle.tap_names.proofs.Loops.{behind_fault, passed_on}
use Rattle.tap_names.proofs.Spaces.{names_constants}
use Rattle.tap_names.proofs.inputs.declare_constants.Goals as goal

abbrev judged : List AstConst → AstConst → List Refusal
judged before k = const_offences (const_names before) k

abbrev entry : AstConst → Entry Named
entry k = (k.name.text, named.Constant k.value)

pub returns-in_err-check_first : goal.returns-in_err-check_first
returns-in_err-check_first c =
    let xs = c.args.consts.now in
    let i = c.consts.at in
    let x = c.index-consts-at.result in
    let r = c.in_err-check_first.field-0.0 in
    let n : names_in (entries_of c.consts.table) ≡ const_names (take i xs) = ap names_in c.consts.invariant.listed ∙ names_constants (take i xs) in
    let G : List (List ℕ) → Type 0 = λ z. first (name_offences z x.name) ≡ Some r in
    let P : Result (Table Named) TypeFault → Type 0 = λ z. DeclaresConstants xs z in
    passed_on P (consts_offences xs) (λ d h. h) _ (fault.Refused r) c.from_residual.ensures.1
    (behind_fault judged xs i x c.consts-test.true c.index-consts-at.is (fault.Refused r) (subst G n c.in_err-check_first.ensures.judged) c.consts.invariant.clear)

pub consts-preserved : goal.consts-preserved
consts-preserved c =
    let xs = c.args.consts.now in
    let i = c.consts.at in
    let x = c.index-consts-at.result in
    let l = c.consts-test.true in
    let q = c.index-consts-at.is in
    let n : names_in (entries_of c.consts.table) ≡ const_names (take i xs) = ap names_in c.consts.invariant.listed ∙ names_constants (take i xs) in
    let G : List (List ℕ) → Type 0 = λ z. name_offences z x.name ≡ [] in
    record {
      clear = behind_on judged xs i x l q (subst G n c.in_ok-check_first.ensures.judged) c.consts.invariant.clear;
      listed = taken_on entry xs i x l q (entries_of c.consts.table) _ (c.in_ok-declare.ensures ∙ ap (λ z. entries_of c.consts.table ++ (z, c.constant_named.result) ∷ []) c.as_str.ensures ∙ ap (λ z. entries_of c.consts.table ++ (x.name.text, z) ∷ []) c.constant_named.ensures) c.consts.invariant.listed;
    }
