-- A checked system is judged right: by one induction over statements and branches.
use Rattle.std.proofs.Common.{◌≡◌, ◌≤◌, ◌+◌, ℕ, Bool, true, false, List, [], ◌∷◌, ◌++◌, map, flat_map, refl, sym, subst, ◌∙◌, Option, None, Some, arith}
use Rattle.std.specs.Prelude.{IfSome, nat_lt}
use Rattle.tap_base.specs.declared.refusal.RefusalCode.TheVariants.{W1, W3, W5, W6, W7}
use Rattle.tap_base.specs.declared.system.Action.{Action}
use Rattle.tap_base.specs.declared.system.Field.{Field}
use Rattle.tap_base.specs.declared.system.Guard.{Guard}
use Rattle.tap_base.specs.declared.system.Guard.TheVariants as guard
use Rattle.tap_base.specs.declared.system.Process.{Process}
use Rattle.tap_base.specs.declared.system.System.{System}
use Rattle.tap_base.specs.declared.tree.Branch.{Branch}
use Rattle.tap_base.specs.declared.tree.Expr.{Expr}
use Rattle.tap_base.specs.declared.tree.Stmt.{Stmt}
use Rattle.tap_base.specs.declared.tree.Stmt.TheVariants as stmt
use Rattle.tap_base.specs.declared.tree.Target.{Target}
use Rattle.tap_base.specs.Interval.{delay_range, index_range}
use Rattle.tap_base.specs.Lists.{Each, EachBoth, EachFrom}
use Rattle.tap_base.specs.ListWords.{joined}
use Rattle.tap_base.specs.Offences.{where_}
use Rattle.tap_base.specs.Parts.{Deed, all_deeds, branch_deeds, deeds, joined as deeds_joined}
use Rattle.tap_base.specs.Resolved.{IsMet, IsResolvedAction, IsResolvedExpr, IsResolvedGuard, IsResolvedProcess, IsResolvedSend, IsResolvedTarget}
use Rattle.tap_base.specs.Scope.{Scope, scope_of, value_range}
use Rattle.tap_base.proofs.ListFacts.{both_empty, each_append, each_split}
use Rattle.tap_exec.proofs.StmtInduction.{of_stmt}
use Rattle.sound_bodies.specs.Judged.{FitsRange, IsJudgedAction, IsJudgedDeed, IsJudgedGuard, IsJudgedTarget}
use Rattle.tap_base.specs.Sends.{action_sends, body_sends}
use Rattle.sound_bodies.proofs.DeedsOpen as open_
use Rattle.sound_bodies.proofs.SoundSystem.{bodies_sound}
use Rattle.width_check.specs.Cost.{action_cost}
use Rattle.width_check.specs.ExprOffences.{expr_offences, judged, where_wider}
use Rattle.width_check.specs.Offences.{action_offences, guard_offences, limit_offences, most_cost, most_sends, process_offences}
use Rattle.width_check.specs.StmtOffences.{body_offences, branch_offences, field_offences, offences_of_index, sent_fields, stmt_offences, target_offences, value_offences, width_offences}
use Rattle.checked_systems.specs.CheckedIsSound.{CheckedIsSound}
use Rattle.checked_systems.proofs.Exprs.{fits, right}
use Rattle.checked_systems.proofs.Open as judge_

module _ (system : System) (p : ℕ) (process : Process) (s : Scope) where
  abbrev Met : List Deed → Type 0
  Met = Each (IsMet system p process s)

  abbrev Judged : List Deed → Type 0
  Judged = Each (IsJudgedDeed system.messages s)

  -- ---- statements

  target_right : (t : Target) → IsResolvedTarget s t → target_offences s t ≡ [] → IsJudgedTarget s t
  target_right t h e = by_index t.index h.index e where
    by_index : (i : Option Expr) → IfSome i (IsResolvedExpr s) → offences_of_index s t.length i ≡ [] → IfSome i (λ e. FitsRange s e (index_range t.length))
    by_index None h e = tt
    by_index (Some i) h e =
        let none = both_empty (judged s i).offences (where_wider (judged s i).interval (index_range t.length) W3 (judged s i).place) e in
        fits s i (index_range t.length) W3 (judged s i).place h none.0 none.1

  targets_right : (ts : List Target) → Each (IsResolvedTarget s) ts → flat_map (target_offences s) ts ≡ [] → Each (IsJudgedTarget s) ts
  targets_right [] h e = tt
  targets_right (t ∷ ts) h e =
      let none = both_empty (target_offences s t) (flat_map (target_offences s) ts) e in
      (target_right t h.0 none.0, targets_right ts h.1 none.1)

  values_right : (ts : List Target) (es : List Expr) → Each (IsResolvedExpr s) es → flat_map (expr_offences s) es ≡ [] → width_offences s ts es ≡ [] → EachBoth (λ (t : Target) (e : Expr). FitsRange s e t.range) ts es
  values_right [] es h a b = tt
  values_right (t ∷ ts) [] h a b = tt
  values_right (t ∷ ts) (e ∷ es) h a b =
      let none = both_empty (expr_offences s e) (flat_map (expr_offences s) es) a in
      let wide = both_empty (where_wider (judged s e).interval t.range W1 t.place) (width_offences s ts es) b in
      (fits s e t.range W1 t.place h.0 none.0 wide.0, values_right ts es h.1 none.1 wide.1)

  fields_right : (fs : List Field) (es : List Expr) → Each (IsResolvedExpr s) es → field_offences s fs es ≡ [] → EachBoth (λ (f : Field) (e : Expr). FitsRange s e (value_range f)) fs es
  fields_right [] es h a = tt
  fields_right (f ∷ fs) [] h a = tt
  fields_right (f ∷ fs) (e ∷ es) h a =
      let none = both_empty (value_offences s f e) (field_offences s fs es) a in
      let own = both_empty (expr_offences s e) (where_wider (judged s e).interval (value_range f) W1 e.place) none.0 in
      (fits s e (value_range f) W1 e.place h.0 own.0 own.1, fields_right fs es h.1 none.1)

  abbrev Holds : Stmt → Type 0
  Holds t = Met (deeds t) → stmt_offences system.messages s t ≡ [] → Judged (deeds t)

  abbrev HoldsOf : Branch → Type 0
  HoldsOf b = Met (branch_deeds b) → branch_offences system.messages s b ≡ [] → Judged (branch_deeds b)

  skip_holds : Holds stmt.Skip
  skip_holds met none = subst Judged (sym open_.deeds_skip) tt

  assign_holds : (targets : List Target) (values : List Expr) → Holds (stmt.Assign targets values)
  assign_holds targets values met none =
      let m = (subst Met (open_.deeds_assign targets values) met).0 in
      let last = both_empty (flat_map (target_offences s) targets ++ flat_map (expr_offences s) values) (width_offences s targets values) (sym (judge_.offences_assign system.messages s targets values) ∙ none) in
      let first = both_empty (flat_map (target_offences s) targets) (flat_map (expr_offences s) values) last.0 in
      subst Judged (sym (open_.deeds_assign targets values)) ((targets_right targets m.1 first.0, values_right targets values m.2 first.1 last.1), tt)

  choose_holds : (target : Target) → Holds (stmt.Choose target)
  choose_holds target met none =
      let m = (subst Met (open_.deeds_choose target) met).0 in
      subst Judged (sym (open_.deeds_choose target)) (target_right target m (sym (judge_.offences_choose system.messages s target) ∙ none), tt)

  send_holds : (m : ℕ) (values : List Expr) (q : ℕ) → Holds (stmt.Send m values q)
  send_holds m values q met none =
      let h : IsResolvedSend system p s m values q = (subst Met (open_.deeds_send m values q) met).0 in
      subst Judged (sym (open_.deeds_send m values q)) (fields_right (sent_fields system.messages m) values h.resolved (sym (judge_.offences_send system.messages s m values q) ∙ none), tt)

  start_holds : (t : ℕ) (delay : Expr) → Holds (stmt.Start t delay)
  start_holds t delay met none =
      let m = (subst Met (open_.deeds_start t delay) met).0 in
      let parts = both_empty (judged s delay).offences (where_wider (judged s delay).interval delay_range W5 (judged s delay).place) (sym (judge_.offences_start system.messages s t delay) ∙ none) in
      subst Judged (sym (open_.deeds_start t delay)) (fits s delay delay_range W5 (judged s delay).place m.1 parts.0 parts.1, tt)

  stop_holds : (t : ℕ) → Holds (stmt.Stop t)
  stop_holds t met none = subst Judged (sym (open_.deeds_stop t)) (tt, tt)

  all_branches : (bs : List Branch) → Each HoldsOf bs → Met (deeds_joined (map branch_deeds bs)) → joined (map (branch_offences system.messages s) bs) ≡ [] → Judged (deeds_joined (map branch_deeds bs))
  all_branches [] h met none = tt
  all_branches (b ∷ bs) h met none =
      let m = each_split (IsMet system p process s) (branch_deeds b) (deeds_joined (map branch_deeds bs)) met in
      let n = both_empty (branch_offences system.messages s b) (joined (map (branch_offences system.messages s) bs)) none in
      each_append (IsJudgedDeed system.messages s) (branch_deeds b) (deeds_joined (map branch_deeds bs)) (h.0 m.0 n.0) (all_branches bs h.1 m.1 n.1)

  all_stmts : (ts : List Stmt) → Each Holds ts → Met (all_deeds ts) → body_offences system.messages s ts ≡ [] → Judged (all_deeds ts)
  all_stmts [] h met none = tt
  all_stmts (t ∷ ts) h met none =
      let m = each_split (IsMet system p process s) (deeds t) (all_deeds ts) met in
      let n = both_empty (stmt_offences system.messages s t) (body_offences system.messages s ts) none in
      each_append (IsJudgedDeed system.messages s) (deeds t) (all_deeds ts) (h.0 m.0 n.0) (all_stmts ts h.1 m.1 n.1)

  selection_holds : (bs : List Branch) → Each HoldsOf bs → Holds (stmt.If bs)
  selection_holds bs h met none =
      subst Judged (sym (open_.deeds_if bs)) (all_branches bs h (subst Met (open_.deeds_if bs) met) (sym (judge_.offences_if system.messages s bs) ∙ none))

  loop_holds : (n : ℕ) (bs : List Branch) → Each HoldsOf bs → Holds (stmt.Loop n bs)
  loop_holds n bs h met none =
      subst Judged (sym (open_.deeds_loop n bs)) (tt, all_branches bs h (subst Met (open_.deeds_loop n bs) met).1 (sym (judge_.offences_loop system.messages s n bs) ∙ none))

  branch_holds : (guard : Expr) (body : List Stmt) → Each Holds body → HoldsOf (record { guard = guard; body = body })
  branch_holds guard body h met none =
      let m = subst Met (open_.deeds_branch guard body) met in
      let n = both_empty (expr_offences s guard) (body_offences system.messages s body) (sym (judge_.offences_branch system.messages s guard body) ∙ none) in
      subst Judged (sym (open_.deeds_branch guard body)) (right s guard m.0 n.0, all_stmts body h m.1 n.1)

  stmt_holds : (t : Stmt) → Holds t
  stmt_holds = of_stmt Holds HoldsOf skip_holds assign_holds choose_holds send_holds start_holds stop_holds selection_holds loop_holds branch_holds

  each_holds : (ts : List Stmt) → Each Holds ts
  each_holds [] = tt
  each_holds (t ∷ ts) = (stmt_holds t, each_holds ts)

  body_right : (body : List Stmt) → Met (all_deeds body) → body_offences system.messages s body ≡ [] → Judged (all_deeds body)
  body_right body met none = all_stmts body (each_holds body) met none

-- ---- actions

few_sends : (a : Action) → limit_offences a ≡ [] → body_sends a.body ≤ 64
few_sends a none = by_test (nat_lt most_sends (action_sends a)) refl
    (both_empty (where_ (nat_lt most_cost (action_cost a)) W6 a.place) (where_ (nat_lt most_sends (action_sends a)) W7 a.place) none).1 where
      by_test : (t : Bool) → nat_lt most_sends (action_sends a) ≡ t → where_ t W7 a.place ≡ [] → action_sends a ≤ 64
      by_test true h f = cc
      by_test false h f = grind arith

guard_right : (system : System) (p : ℕ) (process : Process) (g : Guard) → IsResolvedGuard system p process g → guard_offences (scope_of system.messages process g) g ≡ [] → IsJudgedGuard (scope_of system.messages process g) g
guard_right system p process (guard.Local e) h none = right (scope_of system.messages process (guard.Local e)) e h none
guard_right system p process (guard.Receive m q) h none = tt
guard_right system p process (guard.Timeout t) h none = tt

action_right : (system : System) (p : ℕ) (process : Process) (a : Action) → IsResolvedAction system p process a → action_offences system.messages process a ≡ [] → IsJudgedAction system.messages process a
action_right system p process a h none =
    let s = scope_of system.messages process a.guard in
    let last = both_empty (guard_offences s a.guard ++ body_offences system.messages s a.body) (limit_offences a) none in
    let first = both_empty (guard_offences s a.guard) (body_offences system.messages s a.body) last.0 in
    record {
      guard = guard_right system p process a.guard h.guard first.0;
      body = body_right system p process s a.body h.body first.1;
      few = few_sends a last.1;
    }

actions_right : (system : System) (p : ℕ) (process : Process) (as_ : List Action) → Each (IsResolvedAction system p process) as_ → flat_map (action_offences system.messages process) as_ ≡ []
    → Each (IsJudgedAction system.messages process) as_
actions_right system p process [] h none = tt
actions_right system p process (a ∷ as_) h none =
    let n = both_empty (action_offences system.messages process a) (flat_map (action_offences system.messages process) as_) none in
    (action_right system p process a h.0 n.0, actions_right system p process as_ h.1 n.1)

processes_right : (system : System) (n : ℕ) (ps : List Process) → EachFrom n (IsResolvedProcess system) ps → flat_map (process_offences system.messages) ps ≡ []
    → Each (λ (p : Process). Each (IsJudgedAction system.messages p) p.actions) ps
processes_right system n [] h none = tt
processes_right system n (p ∷ ps) h none =
    let k = both_empty (process_offences system.messages p) (flat_map (process_offences system.messages) ps) none in
    (actions_right system n p p.actions h.0.actions k.0, processes_right system (n + 1) ps h.1 k.1)

pub checked_sound : CheckedIsSound
checked_sound system ok =
    let judged = processes_right system 0 system.processes ok.resolved.processes ok.clear in
    (judged, bodies_sound system ok.resolved judged)
