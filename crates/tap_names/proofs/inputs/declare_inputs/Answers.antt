use Rattle.std.proofs.Common.{◌≡◌, ◌∙◌, ap, subst, List, [], ◌∷◌, ◌++◌, arith}
use Rattle.std.specs.Prelude.{ℕ, Result}
use Rattle.tap_base.specs.declared.ast.AstVar.{AstVar}
use Rattle.tap_names.specs.declared.fault.TypeFault.{TypeFault}
use Rattle.tap_names.specs.declared.named.Named.TheVariants as named
use Rattle.tap_names.specs.declared.inputs.DeclaredInputs.{DeclaredInputs}
use Rattle.tap_names.specs.VariableOffences.{input_offences}
use Rattle.tap_names.specs.inner.Declares.{DeclaresInputs, judged_input}
use Rattle.tap_names.specs.Kinds.{kind_of_scalar}
use Rattle.tap_base.specs.ListWords.{behind}
use Rattle.tap_names.specs.Names.{input_entry, input_names, input_of}
use Rattle.tap_names.specs.Refusals.{Faults}
use Rattle.tap_names.specs.Tables.{entries_of}
use Rattle.tap_base.proofs.LoopFacts.{behind_on, each_on, entries_on}
use Rattle.tap_names.proofs.Loops.{behind_fault, counted, listed_on, passed_on}
use Rattle.tap_names.proofs.inputs.declare_inputs.Goals as goal

abbrev name : AstVar → List ℕ
name v = v.name.text

pub returns-in_err-input_named : goal.returns-in_err-input_named
returns-in_err-input_named c =
    let k = entries_of c.args.constants.now in
    let xs = c.args.inputs.now in
    let i = c.inputs.at in
    let x = c.index-inputs-at.result in
    let G : List (List ℕ) → Type 0 = λ z. Faults (input_offences k z x) c.in_err-input_named.field-0.0 in
    let P : Result DeclaredInputs TypeFault → Type 0 = λ z. DeclaresInputs k xs z in
    passed_on P (behind (judged_input k) [] xs) (λ d h. h) _ _ c.from_residual.ensures.1
    (behind_fault (judged_input k) xs i x c.inputs-test.true c.index-inputs-at.is _ (subst G c.inputs.invariant.names c.in_err-input_named.ensures.judged) c.inputs.invariant.clear)

pub inputs-preserved : goal.inputs-preserved
inputs-preserved c =
    let k = entries_of c.args.constants.now in
    let xs = c.args.inputs.now in
    let i = c.inputs.at in
    let x = c.index-inputs-at.result in
    let l = c.inputs-test.true in
    let q = c.index-inputs-at.is in
    let old = entries_of c.inputs.table in
    let G : List (List ℕ) → Type 0 = λ z. input_offences k z x ≡ [] in
    let n = counted name xs i old (omega (arith, l)) c.inputs.invariant.names in
    let e = c.in_ok-declare.ensures ∙ ap (λ z. old ++ (z, named.Input i c.kind_of.result) ∷ []) c.as_str.ensures ∙ ap (λ z. old ++ (x.name.text, named.Input i z) ∷ []) (c.kind_of.ensures ∙ ap kind_of_scalar c.scalar_of.ensures) in
    record {
      clear = behind_on (judged_input k) xs i x l q (subst G c.inputs.invariant.names c.in_ok-input_named.ensures.judged.0) c.inputs.invariant.clear;
      names = listed_on name xs i x l q _ old _ e c.inputs.invariant.names;
      listed = entries_on input_entry xs i x l q old _ (input_names 0 xs) e c.inputs.invariant.listed;
      named = each_on (input_of k) xs i x l q c.in_ok-input_named.field-0 c.inputs.found _ c.in_ok-push.ensures.ok c.in_ok-input_named.ensures.judged.1 c.inputs.invariant.named;
      few = omega (arith, n, c.in_ok-input_named.ensures.few);
    }
