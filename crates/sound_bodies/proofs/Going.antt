-- Every statement can be run where each of its deeds is sound: by one induction over statements and branches.
use Rattle.std.proofs.Common.{◌≡◌, ◌^◌, ◌&&◌, ℕ, ℤ, pos, unsigned_abs, true, List, [], ◌∷◌, ◌++◌, map, refl, ap, subst, ◌∙◌, slice_get, slice_set, Some}
use Rattle.std.specs.Prelude.{int_le, int_lt}
use Rattle.std.specs.List.{list_any}
use Rattle.std.specs.Ordering.{int_eq}
use Rattle.std.specs.Int.Signed.{≤ℤ_refl}
use Rattle.tap_base.specs.declared.place.Range.{Range}
use Rattle.tap_base.specs.declared.tree.Branch.{Branch}
use Rattle.tap_base.specs.declared.tree.Expr.{Expr}
use Rattle.tap_base.specs.declared.tree.Stmt.{Stmt}
use Rattle.tap_base.specs.declared.tree.Stmt.TheVariants as stmt
use Rattle.tap_base.specs.declared.tree.Target.{Target}
use Rattle.tap_base.specs.declared.wire.WireField.{WireField}
use Rattle.tap_base.specs.Lists.{Each}
use Rattle.tap_base.specs.Option.{◌>>=◌, each, provided}
use Rattle.tap_base.specs.Parts.{Deed, all_deeds, branch_deeds, deeds, joined as deeds_joined}
use Rattle.tap_base.specs.Ranges.{ranges_of, values_of}
use Rattle.tap_base.specs.Resolved.{IsOrdered}
use Rattle.tap_base.proofs.ListFacts.{each_at, each_split}
use Rattle.tap_base.proofs.RangeFacts.{among_values, within_decides}
use Rattle.tap_exec.specs.Running.{Running}
use Rattle.tap_exec.specs.declared.running.TimerState.TheVariants as timer
use Rattle.tap_exec.specs.Execution.{Doing, alternative, assigned, chosen, exec, exec_all, place_in, rounds, sent, started, value_in, with_timer, writes}
use Rattle.tap_exec.specs.Filling.{filled}
use Rattle.tap_exec.specs.Value.{value_of}
use Rattle.tap_exec.proofs.StmtInduction.{of_stmt}
use Rattle.tap_exec.proofs.StmtOpen as exec_
use Rattle.abstract_run.specs.Safe.{IsFitRunning}
use Rattle.tap_exec.specs.Semantics.{ProcessSemantics, Semantics}
use Rattle.sound_bodies.specs.GoOn.{GoesOn}
use Rattle.tap_base.specs.Sends.{stmt_sends}
use Rattle.sound_bodies.proofs.Bodies.{DeedRuns, Sends, stmt_holds}
use Rattle.sound_bodies.proofs.DeedsOpen as open_
use Rattle.sound_bodies.proofs.GoOn.{AlwaysCan, BranchCan, CanRun, all_can, can_run, rounds_can, with}
use Rattle.sound_bodies.proofs.Simple.{Aims, assigns, delay_fits, exact, gives, placed}

-- the least value of a range is one of its values
low_among : (range : Range) → IsOrdered range → list_any (int_eq range.lo) (values_of range) ≡ true
low_among range h = among_values range range.lo ∙ (within_decides range range.lo).1 (≤ℤ_refl range.lo, h)

module _ (semantics : Semantics) (p : ℕ) (process : ProcessSemantics) (inputs received : List ℤ) (ordered : Each IsOrdered (ranges_of process.vars)) where
  abbrev messages : List (List WireField)
  messages = semantics.messages

  abbrev Met : List Deed → Type 0
  Met = Each (DeedRuns semantics p process exact inputs received)

  abbrev by_value : Stmt → Doing
  by_value = exec exact semantics.messages inputs received

  abbrev Can : Doing → Type 0
  Can = AlwaysCan semantics p process

  abbrev Goes : Stmt → Type 0
  Goes t = Met (deeds t) → Can (by_value t)

  abbrev GoesOf : Branch → Type 0
  GoesOf b = Met (branch_deeds b) → BranchCan semantics p process (alternative exact semantics.messages inputs received b)

  -- a statement that is sound, and can be run so
  goes_by : (t : Stmt) → Met (deeds t) → (r : Running) → IsFitRunning process r → (choices : List ℤ) (after : Running)
      → ((rest : List ℤ) → by_value t (with r (choices ++ rest)) ≡ Some (with after rest)) → CanRun semantics p process (by_value t) r
  goes_by t met r fit choices after runs =
      can_run semantics p process (stmt_sends t) (by_value t) (by_value t) r choices after fit (stmt_holds semantics p process exact inputs received t met) runs

  assigned_as : (r : Running) (targets : List Target) (values : List Expr) (ps : List ℕ) (xs rest : List ℤ) → each (place_in exact messages inputs received r) targets ≡ Some ps → each (value_in exact messages inputs received r) values ≡ Some xs
      → assigned exact messages inputs received targets values (with r rest) ≡ Some (with (record r { cells = writes ps xs r.cells }) rest)
  assigned_as r targets values ps xs rest pv nv = rw (pv, nv) refl

  chosen_as : (r : Running) (target : Target) (k : ℕ) (rest : List ℤ) → place_in exact messages inputs received r target ≡ Some k → IsOrdered target.range
      → chosen exact messages inputs received target (with r (target.range.lo ∷ rest)) ≡ Some (with (record r { cells = slice_set r.cells k target.range.lo }) rest)
  chosen_as r target k rest pv h = let low = low_among target.range h in rw (pv, low) refl

  sent_as : (r : Running) (m : ℕ) (values : List Expr) (q : ℕ) (fields : List WireField) (xs ys rest : List ℤ) → slice_get messages m ≡ Some fields → each (value_in exact messages inputs received r) values ≡ Some xs → filled fields xs ≡ Some ys
      → sent exact messages inputs received m values q (with r rest) ≡ Some (with (record r { sends = r.sends ++ record { to = q; message = m; values = ys } ∷ [] }) rest)
  sent_as r m values q fields xs ys rest declared nv fl = rw (declared, nv, fl) refl

  started_as : (r : Running) (t : ℕ) (delay : Expr) (rest : List ℤ) → (int_le (pos 0) (value_of delay r.cells inputs received) && int_lt (value_of delay r.cells inputs received) (pos (2 ^ 32))) ≡ true
      → started exact messages inputs received t delay (with r rest) ≡ Some (with (with_timer t (timer.Armed (unsigned_abs (value_of delay r.cells inputs received))) r) rest)
  started_as r t delay rest e = ap (λ b. provided b (unsigned_abs (value_of delay r.cells inputs received)) >>= λ d. Some (with (with_timer t (timer.Armed d) r) rest)) e

  skip_goes : Goes stmt.Skip
  skip_goes met r fit = goes_by stmt.Skip met r fit [] r (λ rest. exec_.exec_skip exact messages inputs received (with r rest))

  assign_goes : (targets : List Target) (values : List Expr) → Goes (stmt.Assign targets values)
  assign_goes targets values met r fit =
      let m = (subst Met (open_.deeds_assign targets values) met).0 in
      let a = assigns semantics p process exact inputs received r fit targets values m.0 m.1 m.2 in
      goes_by (stmt.Assign targets values) met r fit [] (record r { cells = writes a.places a.numbers r.cells })
      (λ rest. exec_.exec_assign exact messages inputs received (with r rest) targets values ∙ assigned_as r targets values a.places a.numbers rest a.places_exact a.numbers_exact)

  choose_goes : (target : Target) → Goes (stmt.Choose target)
  choose_goes target met r fit =
      let m : Aims semantics p process exact inputs received target = (subst Met (open_.deeds_choose target) met).0 in
      let place = placed semantics p process exact inputs received r fit target m in
      let in_order : IsOrdered target.range = each_at IsOrdered (ranges_of process.vars) place.place target.range ordered place.range in
      goes_by (stmt.Choose target) met r fit (target.range.lo ∷ []) (record r { cells = slice_set r.cells place.place target.range.lo })
      (λ rest. exec_.exec_choose exact messages inputs received (with r (target.range.lo ∷ rest)) target ∙ chosen_as r target place.place rest place.exactly in_order)

  send_goes : (m : ℕ) (values : List Expr) (q : ℕ) → Goes (stmt.Send m values q)
  send_goes m values q met r fit =
      let h : Sends semantics p process exact inputs received m values q = (subst Met (open_.deeds_send m values q) met).0 in
      let g = gives semantics p process exact inputs received r fit h.wanted values h.counted h.given in
      let filling = h.fills g.numbers g.fitting in
      goes_by (stmt.Send m values q) met r fit [] (record r { sends = r.sends ++ record { to = q; message = m; values = filling.values } ∷ [] })
      (λ rest. exec_.exec_send exact messages inputs received (with r rest) m values q ∙ sent_as r m values q h.fields g.numbers filling.values rest h.declared g.exactly filling.fills)

  start_goes : (t : ℕ) (delay : Expr) → Goes (stmt.Start t delay)
  start_goes t delay met r fit =
      let m = (subst Met (open_.deeds_start t delay) met).0 in
      let x = value_of delay r.cells inputs received in
      goes_by (stmt.Start t delay) met r fit [] (with_timer t (timer.Armed (unsigned_abs x)) r)
      (λ rest. exec_.exec_start exact messages inputs received (with r rest) t delay ∙ started_as r t delay rest (delay_fits x (m.within r.cells fit.cells)))

  stop_goes : (t : ℕ) → Goes (stmt.Stop t)
  stop_goes t met r fit = goes_by (stmt.Stop t) met r fit [] (with_timer t timer.Off r) (λ rest. exec_.exec_stop exact messages inputs received (with r rest) t)

  -- ---- branches and lists

  all_branches : (bs : List Branch) → Each GoesOf bs → Met (deeds_joined (map branch_deeds bs)) → Each (BranchCan semantics p process) (map (alternative exact semantics.messages inputs received) bs)
  all_branches [] h met = tt
  all_branches (b ∷ bs) h met =
      let m = each_split (DeedRuns semantics p process exact inputs received) (branch_deeds b) (deeds_joined (map branch_deeds bs)) met in
      (h.0 m.0, all_branches bs h.1 m.1)

  all_stmts : (ts : List Stmt) → Each Goes ts → Met (all_deeds ts) → Each Can (map by_value ts)
  all_stmts [] h met = tt
  all_stmts (t ∷ ts) h met =
      let m = each_split (DeedRuns semantics p process exact inputs received) (deeds t) (all_deeds ts) met in
      (h.0 m.0, all_stmts ts h.1 m.1)

  opened : (c d : Doing) (r : Running) → ((t : Running) → c t ≡ d t) → CanRun semantics p process d r → CanRun semantics p process c r
  opened c d r e h = record { choices = h.choices; after = h.after; fit = h.fit; runs = λ rest. e (with r (h.choices ++ rest)) ∙ h.runs rest }

  selection_goes : (bs : List Branch) → Each GoesOf bs → Goes (stmt.If bs)
  selection_goes bs h met r fit =
      let ds = map (alternative exact semantics.messages inputs received) bs in
      opened (by_value (stmt.If bs)) (rounds 1 ds) r (λ t. exec_.exec_if exact messages inputs received t bs)
      (rounds_can semantics p process ds (all_branches bs h (subst Met (open_.deeds_if bs) met)) 1 r fit)

  loop_goes : (n : ℕ) (bs : List Branch) → Each GoesOf bs → Goes (stmt.Loop n bs)
  loop_goes n bs h met r fit =
      let ds = map (alternative exact semantics.messages inputs received) bs in
      opened (by_value (stmt.Loop n bs)) (rounds n ds) r (λ t. exec_.exec_loop exact messages inputs received t n bs)
      (rounds_can semantics p process ds (all_branches bs h (subst Met (open_.deeds_loop n bs) met).1) n r fit)

  branch_goes : (guard : Expr) (body : List Stmt) → Each Goes body → GoesOf (record { guard = guard; body = body })
  branch_goes guard body h met =
      let b : Branch = record { guard = guard; body = body } in
      let m = subst Met (open_.deeds_branch guard body) met in
      record {
        test = λ cells r. int_eq (value_of guard cells inputs received) (pos 1);
        tests = λ r fit. exec_.guard_branch exact messages inputs received r guard body;
        same = λ r rest. refl;
        body = λ r fit. opened (alternative exact semantics.messages inputs received b).1 (exec_all exact semantics.messages inputs received body) r (λ t. exec_.body_branch exact messages inputs received t guard body)
            (all_can semantics p process (map by_value body) (all_stmts body h m.1) r fit);
      }

  pub stmt_goes : (t : Stmt) → Goes t
  stmt_goes = of_stmt Goes GoesOf skip_goes assign_goes choose_goes send_goes start_goes stop_goes selection_goes loop_goes branch_goes

  each_goes : (ts : List Stmt) → Each Goes ts
  each_goes [] = tt
  each_goes (t ∷ ts) = (stmt_goes t, each_goes ts)

  pub body_goes_on : (body : List Stmt) → Met (all_deeds body) → (r : Running) → IsFitRunning process r → GoesOn (exec_all exact semantics.messages inputs received body) r
  body_goes_on body met r fit =
      let h = all_can semantics p process (map by_value body) (all_stmts body (each_goes body) met) r fit in
      record { choices = h.choices; after = h.after; runs = h.runs }
