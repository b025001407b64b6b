use Rattle.std.proofs.Common.{◌≡◌, ◌+◌, sym, ◌∙◌, ap, subst, List, [], ◌∷◌, ◌++◌, take, arith}
use Rattle.std.specs.Prelude.{ℕ, Result}
use Rattle.tap_base.specs.declared.ast.AstProcess.{AstProcess}
use Rattle.tap_names.specs.declared.declared.Declared.{Declared}
use Rattle.tap_names.specs.declared.declared.DeclaredProcesses.{DeclaredProcesses}
use Rattle.tap_names.specs.declared.fault.TypeFault.{TypeFault}
use Rattle.tap_names.specs.Declarations.{process_offences}
use Rattle.tap_base.specs.ListWords.{behind}
use Rattle.tap_names.specs.Processes.{AllDeclared, DeclaresProcesses, judged_process}
use Rattle.tap_names.specs.Refusals.{Faults}
use Rattle.tap_names.specs.Tables.{entries_of, names_in}
use Rattle.tap_names.proofs.AllOf.{all_more}
use Rattle.tap_base.proofs.LoopFacts.{before_next, behind_on}
use Rattle.tap_names.proofs.Loops.{behind_fault, counted, listed_on, passed_on}
use Rattle.tap_names.proofs.declared.declare_processes.Goals as goal

abbrev name : AstProcess → List ℕ
name p = p.name.text

pub returns-in_err-declare_process : goal.returns-in_err-declare_process
returns-in_err-declare_process c =
    let m = names_in (entries_of c.args.messages.now) in
    let xs = c.args.processes.now in
    let i = c.processes.at in
    let x = c.index-processes-at.result in
    let G : List (List ℕ) → Type 0 = λ z. Faults (process_offences m z x) c.in_err-declare_process.field-0.0 in
    let P : Result DeclaredProcesses TypeFault → Type 0 = λ r. DeclaresProcesses m xs r in
    passed_on P (behind (judged_process m) [] xs) (λ d h. h) _ _ c.from_residual.ensures.1
    (behind_fault (judged_process m) xs i x c.processes-test.true c.index-processes-at.is _ (subst G c.processes.invariant.names c.in_err-declare_process.ensures.judged) c.processes.invariant.clear)

pub processes-preserved : goal.processes-preserved
processes-preserved c =
    let m = names_in (entries_of c.args.messages.now) in
    let xs = c.args.processes.now in
    let i = c.processes.at in
    let x = c.index-processes-at.result in
    let l = c.processes-test.true in
    let q = c.index-processes-at.is in
    let old = entries_of c.processes.table in
    let G : List (List ℕ) → Type 0 = λ z. process_offences m z x ≡ [] in
    let D : List AstProcess → Type 0 = λ z. AllDeclared z (c.processes.declared ++ c.in_ok-declare_process.field-0 ∷ []) in
    let L : List Declared → Type 0 = λ z. AllDeclared (take (i + 1) xs) z in
    let n = counted name xs i old (omega (arith, l)) c.processes.invariant.names in
    record {
      clear = behind_on (judged_process m) xs i x l q (subst G c.processes.invariant.names c.in_ok-declare_process.ensures.judged.0) c.processes.invariant.clear;
      names = listed_on name xs i x l q tt old _ (c.in_ok-declare.ensures ∙ ap (λ z. old ++ (z, tt) ∷ []) c.as_str.ensures) c.processes.invariant.names;
      «declared» = subst L (sym c.in_ok-push.ensures.ok) (subst D (sym (before_next xs i x l q)) (all_more (take i xs) c.processes.declared x c.in_ok-declare_process.field-0 c.processes.invariant.declared c.in_ok-declare_process.ensures.judged.1));
      few = omega (arith, n, c.in_ok-declare_process.ensures.room);
    }
