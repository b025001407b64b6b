use Rattle.std.proofs.Common.{◌≡◌, ◌≤◌, sym, ◌∙◌, ap, subst, Some, List, [], ◌∷◌, ◌++◌, take, length, arith}
use Rattle.std.specs.Prelude.{ℕ, Result}
use Rattle.tap_base.specs.declared.ast.Ident.{Ident}
use Rattle.tap_base.specs.declared.refusal.Refusal.{Refusal}
use Rattle.tap_names.specs.declared.fault.TypeFault.{TypeFault}
use Rattle.tap_names.specs.declared.fault.TypeFault.TheVariants as fault
use Rattle.tap_names.specs.declared.named.Named.{Named}
use Rattle.tap_names.specs.declared.named.Named.TheVariants as named
use Rattle.tap_names.specs.NameOffences.{name_offences}
use Rattle.tap_names.specs.VariableOffences.{idents}
use Rattle.tap_names.specs.inner.Declares.{DeclaresTimers, judged_timer}
use Rattle.tap_names.specs.Limits.{most_timers}
use Rattle.tap_base.specs.ListWords.{behind, first}
use Rattle.tap_names.specs.Names.{timer_entry, timer_names}
use Rattle.tap_names.specs.Tables.{Entry, entries_of, names_in}
use Rattle.std.proofs.lemmas.List.{length-map, length-take-le}
use Rattle.std.specs.Prelude.{nat_le}
use Rattle.tap_base.specs.declared.refusal.RefusalCode.TheVariants.{X1}
use Rattle.tap_base.specs.Offences.{where_}
use Rattle.tap_base.proofs.LoopFacts.{behind_on, entries_on}
use Rattle.tap_names.proofs.Loops.{behind_fault, outer_on, passed_on}
use Rattle.tap_names.proofs.timers.declare_timers.Goals as goal

module _ (consts : List (Entry Named)) (outer names : List (List ℕ)) (xs : List Ident) (i : ℕ) (x : Ident) (l : i ≤ length xs) (n : names ≡ outer ++ idents (take i xs)) where
  -- judged by the table and the place, and judged by the timers before
  same : name_offences (names_in consts ++ names) x ++ where_ (nat_le most_timers i) X1 x.place ≡ judged_timer consts outer (take i xs) x
  same =
      let k : length (idents (take i xs)) ≡ i = length-map (take i xs) (λ (t : Ident). t.text) ∙ length-take-le i xs l in
      ap (λ z. name_offences (names_in consts ++ z) x ++ where_ (nat_le most_timers i) X1 x.place) n
      ∙ ap (λ z. name_offences (names_in consts ++ (outer ++ idents (take i xs))) x ++ where_ (nat_le most_timers z) X1 x.place) (sym k)

pub returns-in_err-check_timer : goal.returns-in_err-check_timer
returns-in_err-check_timer c =
    let k = entries_of c.args.constants.now in
    let outer = names_in (entries_of c.args.table.now) in
    let xs = c.args.timers.now in
    let i = c.timers.at in
    let x = c.index-timers-at.result in
    let r = c.in_err-check_timer.field-0.0 in
    let G : List Refusal → Type 0 = λ z. first z ≡ Some r in
    let P : Result (Unit {0}) TypeFault → Type 0 = λ z. DeclaresTimers k xs (entries_of c.args.table.now) z (entries_of c.timers.table) in
    passed_on P (behind (judged_timer k outer) [] xs) (λ d h. h) _ (fault.Refused r) c.from_residual.ensures.1
    (behind_fault (judged_timer k outer) xs i x c.timers-test.true c.index-timers-at.is (fault.Refused r) (subst G (same k outer _ xs i x (omega (arith, c.timers-test.true)) c.timers.invariant.names) c.in_err-check_timer.ensures.judged) c.timers.invariant.clear)

pub timers-preserved : goal.timers-preserved
timers-preserved c =
    let k = entries_of c.args.constants.now in
    let outer = names_in (entries_of c.args.table.now) in
    let xs = c.args.timers.now in
    let i = c.timers.at in
    let x = c.index-timers-at.result in
    let l = c.timers-test.true in
    let q = c.index-timers-at.is in
    let old = entries_of c.timers.table in
    let e = c.in_ok-declare.ensures ∙ ap (λ z. old ++ (z, named.Timer i) ∷ []) c.as_str.ensures in
    record {
      clear = behind_on (judged_timer k outer) xs i x l q (sym (same k outer _ xs i x (omega (arith, l)) c.timers.invariant.names) ∙ c.in_ok-check_timer.ensures.judged) c.timers.invariant.clear;
      names = outer_on (λ (t : Ident). t.text) xs i x l q outer (named.Timer i) old _ e c.timers.invariant.names;
      listed = entries_on timer_entry xs i x l q old _ (entries_of c.args.table.now ++ timer_names 0 xs) e c.timers.invariant.listed;
      few = omega (arith, c.in_ok-check_timer.ensures.few);
    }
