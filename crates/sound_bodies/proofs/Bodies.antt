-- Every statement is sound where each of its deeds is: by one induction over statements and branches.
use Rattle.std.proofs.Common.{◌≡◌, ◌*◌, ℕ, ℤ, List, [], ◌∷◌, map, sum, length, refl, sym, subst, ◌∙◌, slice_get, Some, arith}
use Rattle.std.specs.Prelude.{IfSome}
use Rattle.tap_base.specs.declared.place.Range.{Range}
use Rattle.tap_base.specs.declared.tree.Branch.{Branch}
use Rattle.tap_base.specs.declared.tree.Expr.{Expr}
use Rattle.tap_base.specs.declared.tree.Stmt.{Stmt}
use Rattle.tap_base.specs.declared.tree.Stmt.TheVariants as stmt
use Rattle.tap_base.specs.declared.tree.Target.{Target}
use Rattle.tap_base.specs.declared.wire.WireField.{WireField}
use Rattle.tap_base.specs.Lists.{Each, EachBoth}
use Rattle.tap_base.specs.Parts.{Deed, all_deeds, assign, branch_deeds, choose, deeds, joined as deeds_joined, send, start, stop, test, turns}
use Rattle.tap_base.specs.Ranges.{AreAllIn}
use Rattle.tap_base.proofs.ListFacts.{each_split}
use Rattle.tap_exec.specs.Running.{Running}
use Rattle.tap_exec.specs.declared.running.TimerState.TheVariants as timer
use Rattle.tap_exec.specs.Execution.{Doing, alternative, assigned, chosen, exec, exec_all, holds_in, rounds, sent, started, with_timer}
use Rattle.tap_exec.proofs.StmtInduction.{of_stmt}
use Rattle.tap_exec.proofs.StmtOpen as exec_
use Rattle.byte_meaning.specs.Messages.{Receives}
use Rattle.tap_exec.specs.Semantics.{ProcessSemantics, Semantics}
use Rattle.sound_values.specs.Fields.{FillsFields}
use Rattle.tap_base.specs.Interval.{delay_range}
use Rattle.tap_base.specs.Sends.{body_sends, branch_sends, stmt_sends}
use Rattle.sound_bodies.proofs.Composed.{AllBranches, AllRun, AlwaysRuns, BranchRuns, all_run, rounds_run, stays}
use Rattle.sound_bodies.proofs.DeedsOpen as open_
use Rattle.sound_bodies.proofs.Runs.{Leads, Runs}
use Rattle.sound_bodies.proofs.Simple.{Aims, Gives, IsValued, Valuing, assignment_runs, choice_runs, exact, send_runs, start_runs, timer_set}

module _ (semantics : Semantics) (p : ℕ) (process : ProcessSemantics) (value : Valuing) (inputs received : List ℤ) where
  -- a send has a number within each range that is wanted, and these fill the fields of its message
  pub record Sends (m : ℕ) (values : List Expr) (q : ℕ) : Type 0 where
    pub fields : List WireField
    pub wanted : List Range
    pub declared : slice_get semantics.messages m ≡ Some fields
    pub counted : length values ≡ length wanted
    pub given : EachBoth (λ (range : Range) (e : Expr). Gives semantics p process value inputs received e range) wanted values
    pub fills : (given : List ℤ) → AreAllIn wanted given → FillsFields fields given
    pub other : q ≡ p → ⊥
    pub receiver : Receives semantics q m p

  -- each expression of a deed is within its range, whatever fitting cells it reads
  abbrev pub DeedRuns : Deed → Type 0
  DeedRuns (assign targets values) =
      (length targets ≡ length values) × Each (Aims semantics p process value inputs received) targets
      × EachBoth (λ (t : Target) (e : Expr). Gives semantics p process value inputs received e t.range) targets values
  DeedRuns (choose t) = Aims semantics p process value inputs received t
  DeedRuns (send m values q) = Sends m values q
  DeedRuns (start t delay) = Gives semantics p process value inputs received delay delay_range
  DeedRuns (stop t) = Unit {0}
  DeedRuns (test e) = IsValued semantics p process value inputs received e
  DeedRuns (turns n) = Unit {0}

  abbrev Met : List Deed → Type 0
  Met = Each DeedRuns

  abbrev machine : Stmt → Doing
  machine = exec value semantics.messages inputs received

  abbrev exactly : Stmt → Doing
  exactly = exec exact semantics.messages inputs received

  abbrev Holds : Stmt → Type 0
  Holds t = Met (deeds t) → AlwaysRuns semantics p process (stmt_sends t) (machine t) (exactly t)

  abbrev HoldsOf : Branch → Type 0
  HoldsOf b = Met (branch_deeds b) → BranchRuns semantics p process (branch_sends b) (alternative value semantics.messages inputs received b) (alternative exact semantics.messages inputs received b)

  opened : (n m : ℕ) (c d e f : Doing) (r : Running) → n ≡ m → c r ≡ e r → d r ≡ f r → Runs semantics p process m e f r → Runs semantics p process n c d r
  opened n m c d e f r many by_c by_d h = record {
    same = by_c ∙ h.same ∙ sym by_d;
    leads = subst (λ k. IfSome (d r) (Leads semantics p process k r)) (sym many) (subst (λ o. IfSome o (Leads semantics p process m r)) (sym by_d) h.leads);
  }

  skip_holds : Holds stmt.Skip
  skip_holds met r fit =
      opened (stmt_sends stmt.Skip) 0 (machine stmt.Skip) (exactly stmt.Skip) Some Some r open_.sends_skip
      (exec_.exec_skip value semantics.messages inputs received r) (exec_.exec_skip exact semantics.messages inputs received r)
      (record { same = refl; leads = stays semantics p process r 0 fit })

  assign_holds : (targets : List Target) (values : List Expr) → Holds (stmt.Assign targets values)
  assign_holds targets values met r fit =
      let m = (subst Met (open_.deeds_assign targets values) met).0 in
      opened (stmt_sends (stmt.Assign targets values)) 0 (machine (stmt.Assign targets values)) (exactly (stmt.Assign targets values))
      (assigned value semantics.messages inputs received targets values) (assigned exact semantics.messages inputs received targets values) r
      (open_.sends_assign targets values) (exec_.exec_assign value semantics.messages inputs received r targets values) (exec_.exec_assign exact semantics.messages inputs received r targets values)
      (assignment_runs semantics p process value inputs received r fit targets values m.0 m.1 m.2)

  choose_holds : (target : Target) → Holds (stmt.Choose target)
  choose_holds target met r fit =
      opened (stmt_sends (stmt.Choose target)) 0 (machine (stmt.Choose target)) (exactly (stmt.Choose target))
      (chosen value semantics.messages inputs received target) (chosen exact semantics.messages inputs received target) r
      (open_.sends_choose target) (exec_.exec_choose value semantics.messages inputs received r target) (exec_.exec_choose exact semantics.messages inputs received r target)
      (choice_runs semantics p process value inputs received r fit target (subst Met (open_.deeds_choose target) met).0)

  send_holds : (m : ℕ) (values : List Expr) (q : ℕ) → Holds (stmt.Send m values q)
  send_holds m values q met r fit =
      let h : Sends m values q = (subst Met (open_.deeds_send m values q) met).0 in
      opened (stmt_sends (stmt.Send m values q)) 1 (machine (stmt.Send m values q)) (exactly (stmt.Send m values q))
      (sent value semantics.messages inputs received m values q) (sent exact semantics.messages inputs received m values q) r
      (open_.sends_send m values q) (exec_.exec_send value semantics.messages inputs received r m values q) (exec_.exec_send exact semantics.messages inputs received r m values q)
      (send_runs semantics p process value inputs received r fit m values q h.fields h.wanted h.declared h.counted h.given h.fills h.other h.receiver)

  start_holds : (t : ℕ) (delay : Expr) → Holds (stmt.Start t delay)
  start_holds t delay met r fit =
      opened (stmt_sends (stmt.Start t delay)) 0 (machine (stmt.Start t delay)) (exactly (stmt.Start t delay))
      (started value semantics.messages inputs received t delay) (started exact semantics.messages inputs received t delay) r
      (open_.sends_start t delay) (exec_.exec_start value semantics.messages inputs received r t delay) (exec_.exec_start exact semantics.messages inputs received r t delay)
      (start_runs semantics p process value inputs received r fit t delay (subst Met (open_.deeds_start t delay) met).0)

  stop_holds : (t : ℕ) → Holds (stmt.Stop t)
  stop_holds t met r fit =
      let off : Doing = λ r. Some (with_timer t timer.Off r) in
      opened (stmt_sends (stmt.Stop t)) 0 (machine (stmt.Stop t)) (exactly (stmt.Stop t)) off off r
      (open_.sends_stop t) (exec_.exec_stop value semantics.messages inputs received r t) (exec_.exec_stop exact semantics.messages inputs received r t)
      (record { same = refl; leads = timer_set semantics p process value inputs received r fit t timer.Off tt })

  -- ---- branches and lists

  all_branches : (bs : List Branch) → Each HoldsOf bs → Met (deeds_joined (map branch_deeds bs))
      → AllBranches semantics p process (map branch_sends bs) (map (alternative value semantics.messages inputs received) bs) (map (alternative exact semantics.messages inputs received) bs)
  all_branches [] h met = tt
  all_branches (b ∷ bs) h met = let m = each_split DeedRuns (branch_deeds b) (deeds_joined (map branch_deeds bs)) met in (h.0 m.0, all_branches bs h.1 m.1)

  all_stmts : (ts : List Stmt) → Each Holds ts → Met (all_deeds ts) → AllRun semantics p process (map stmt_sends ts) (map machine ts) (map exactly ts)
  all_stmts [] h met = tt
  all_stmts (t ∷ ts) h met = let m = each_split DeedRuns (deeds t) (all_deeds ts) met in (h.0 m.0, all_stmts ts h.1 m.1)

  selection_holds : (bs : List Branch) → Each HoldsOf bs → Holds (stmt.If bs)
  selection_holds bs h met r fit =
      let ns = map branch_sends bs in
      let cs = map (alternative value semantics.messages inputs received) bs in
      let ds = map (alternative exact semantics.messages inputs received) bs in
      let all = all_branches bs h (subst Met (open_.deeds_if bs) met) in
      let once : sum ns ≡ 1 * sum ns = omega arith in
      opened (stmt_sends (stmt.If bs)) (1 * sum ns) (machine (stmt.If bs)) (exactly (stmt.If bs)) (rounds 1 cs) (rounds 1 ds) r
      (open_.sends_if bs ∙ once) (exec_.exec_if value semantics.messages inputs received r bs) (exec_.exec_if exact semantics.messages inputs received r bs)
      (rounds_run semantics p process ns cs ds all 1 r fit)

  loop_holds : (n : ℕ) (bs : List Branch) → Each HoldsOf bs → Holds (stmt.Loop n bs)
  loop_holds n bs h met r fit =
      let ns = map branch_sends bs in
      let cs = map (alternative value semantics.messages inputs received) bs in
      let ds = map (alternative exact semantics.messages inputs received) bs in
      let all = all_branches bs h (subst Met (open_.deeds_loop n bs) met).1 in
      opened (stmt_sends (stmt.Loop n bs)) (n * sum ns) (machine (stmt.Loop n bs)) (exactly (stmt.Loop n bs)) (rounds n cs) (rounds n ds) r
      (open_.sends_loop n bs) (exec_.exec_loop value semantics.messages inputs received r n bs) (exec_.exec_loop exact semantics.messages inputs received r n bs)
      (rounds_run semantics p process ns cs ds all n r fit)

  branch_holds : (guard : Expr) (body : List Stmt) → Each Holds body → HoldsOf (record { guard = guard; body = body })
  branch_holds guard body h met r fit =
      let b : Branch = record { guard = guard; body = body } in
      let m = subst Met (open_.deeds_branch guard body) met in
      let valued = m.0 r.cells fit.cells in
      let test : holds_in value semantics.messages inputs received r guard ≡ holds_in exact semantics.messages inputs received r guard = rw valued refl in (
        exec_.guard_branch value semantics.messages inputs received r guard body ∙ test ∙ sym (exec_.guard_branch exact semantics.messages inputs received r guard body),
        opened (branch_sends b) (body_sends body) (alternative value semantics.messages inputs received b).1 (alternative exact semantics.messages inputs received b).1
            (exec_all value semantics.messages inputs received body) (exec_all exact semantics.messages inputs received body) r
            (open_.sends_branch guard body) (exec_.body_branch value semantics.messages inputs received r guard body) (exec_.body_branch exact semantics.messages inputs received r guard body)
            (all_run semantics p process (map stmt_sends body) (map machine body) (map exactly body) (all_stmts body h m.1) r fit),
      )

  pub stmt_holds : (t : Stmt) → Holds t
  stmt_holds = of_stmt Holds HoldsOf skip_holds assign_holds choose_holds send_holds start_holds stop_holds selection_holds loop_holds branch_holds

  each_holds : (ts : List Stmt) → Each Holds ts
  each_holds [] = tt
  each_holds (t ∷ ts) = (stmt_holds t, each_holds ts)

  pub body_runs : (body : List Stmt) → Met (all_deeds body) → AlwaysRuns semantics p process (body_sends body) (exec_all value semantics.messages inputs received body) (exec_all exact semantics.messages inputs received body)
  body_runs body met = all_run semantics p process (map stmt_sends body) (map machine body) (map exactly body) (all_stmts body (each_holds body) met)
