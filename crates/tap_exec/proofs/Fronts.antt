-- Statements take their choices from the front: by one induction over statements and branches.
use Rattle.std.proofs.Common.{◌≡◌, ◌+◌, ℕ, zero, suc, ℤ, pos, unsigned_abs, Bool, true, false, List, [], ◌∷◌, ◌++◌, map, refl, ap, sym, subst, ◌∙◌, slice_get, slice_set, Option, Some, None, append_assoc, if◌then◌else◌}
use Rattle.std.specs.List.{list_any}
use Rattle.std.specs.Ordering.{int_eq}
use Rattle.tap_base.specs.declared.tree.Branch.{Branch}
use Rattle.tap_base.specs.declared.tree.Expr.{Expr}
use Rattle.tap_base.specs.declared.tree.Stmt.{Stmt}
use Rattle.tap_base.specs.declared.tree.Stmt.TheVariants as stmt
use Rattle.tap_base.specs.declared.tree.Target.{Target}
use Rattle.tap_base.specs.declared.wire.WireField.{WireField}
use Rattle.tap_base.specs.Lists.{Each}
use Rattle.tap_base.specs.Option.{◌>>=◌, provided}
use Rattle.tap_base.specs.Ranges.{values_of}
use Rattle.tap_base.proofs.ListFacts.{each_at, each_map, each_of}
use Rattle.tap_exec.specs.Running.{Running}
use Rattle.tap_exec.specs.declared.running.TimerState.TheVariants as timer
use Rattle.tap_exec.specs.Execution.{Alternative, Doing, alternative, assigned, chosen, do_all, exec, exec_all, one_runs, open_from, place_in, round, rounds, sent, started, takes, with_timer}
use Rattle.tap_exec.specs.Front.{ChoicesAreFront, TakesFromFront}
use Rattle.tap_exec.proofs.Quiet.{Quiet, assigned_quiet, quiet_leaves, sent_quiet, started_quiet, with_choices}
use Rattle.tap_exec.proofs.StmtInduction.{of_stmt}
use Rattle.tap_exec.proofs.StmtOpen as open_

-- wherever it comes to its end, it took its choices from the front
abbrev Fronts : Doing → Type 0
Fronts d = (before after : Running) → d before ≡ Some after → TakesFromFront d before after

-- what does the same takes its choices in the same way
opened : (c d : Doing) → ((r : Running) → c r ≡ d r) → Fronts d → Fronts c
opened c d e h before after is =
    let x = h before after (sym (e before) ∙ is) in
    record { taken = x.taken; front = x.front; same = λ rest. e (with_choices before (x.taken ++ rest)) ∙ x.same rest }

-- ---- without choices

quiet_fronts : (d : Doing) → Quiet d → Fronts d
quiet_fronts d q before after is =
    let x = quiet_leaves d q before after is in
    record { taken = []; front = sym x.left; same = x.same }

-- ---- one after the other

then_fronts : (d e : Doing) (before mid after : Running) → TakesFromFront d before mid → TakesFromFront e mid after → TakesFromFront (λ r. d r >>= e) before after
then_fronts d e before mid after h k = record {
  taken = h.taken ++ k.taken;
  front = h.front ∙ ap (λ cs. h.taken ++ cs) k.front ∙ sym (append_assoc h.taken k.taken after.choices);
  same = λ rest.
      ap (λ cs. d (with_choices before cs) >>= e) (append_assoc h.taken k.taken rest)
      ∙ ap (λ o. o >>= e) (h.same (k.taken ++ rest))
      ∙ k.same rest;
}

both_front : (d e : Doing) → Fronts d → Fronts e → Fronts (λ r. d r >>= e)
both_front d e h k before after is = by_first (d before) refl is where
  by_first : (o : Option Running) → d before ≡ o → (o >>= e) ≡ Some after → TakesFromFront (λ r. d r >>= e) before after
  by_first None f i = cc
  by_first (Some mid) f i = then_fronts d e before mid after (h before mid f) (k mid after i)

all_fronts : (ds : List Doing) → Each Fronts ds → Fronts (do_all ds)
all_fronts [] h = quiet_fronts Some (λ r rest. refl)
all_fronts (d ∷ ds) h = both_front d (do_all ds) h.0 (all_fronts ds h.1)

-- ---- one choice

-- the choice that was taken, and that it is taken whatever comes behind it
record Took (options : List ℤ) (choices : List ℤ) (x : ℤ) (more : List ℤ) : Type 0 where
  front : choices ≡ x ∷ more
  same : (rest : List ℤ) → takes options (x ∷ rest) ≡ Some (x, rest)

took : (options choices : List ℤ) (taken : ℤ × List ℤ) → takes options choices ≡ Some taken → Took options choices taken.0 taken.1
took options [] taken e = cc
took options (y ∷ ys) taken e = by_test (list_any (int_eq y) options) refl e where
  by_test : (b : Bool) → list_any (int_eq y) options ≡ b → provided b (y, ys) ≡ Some taken → Took options (y ∷ ys) taken.0 taken.1
  by_test false is i = cc
  by_test true is i =
      let P : (ℤ × List ℤ) → Type 0 = λ t. Took options (y ∷ ys) t.0 t.1 in
      let both : ◌≡◌ {A = ℤ × List ℤ} (y, ys) taken = cc in
      subst P both (record { front = refl; same = λ rest. ap (λ c. provided c (y, rest)) is })

-- ---- rounds

-- its guard does not hang on the choices, and its body takes its choices from the front
record IsFront (b : Alternative) : Type 0 where
  guard : (r : Running) (rest : List ℤ) → b.0 (with_choices r rest) ≡ b.0 r
  body : Fronts b.1

-- the same of what also says whether an alternative ran
record RoundFronts (f : Running → Option (Bool × Running)) (before : Running) (done : Bool × Running) : Type 0 where
  taken : List ℤ
  front : before.choices ≡ taken ++ done.1.choices
  same : (rest : List ℤ) → f (with_choices before (taken ++ rest)) ≡ Some (done.0, with_choices done.1 rest)

module _ (bs : List Alternative) (h : Each IsFront bs) where
  one_fronts : (k : ℕ) (before : Running) (done : Bool × Running) → one_runs bs k before ≡ Some done → RoundFronts (one_runs bs k) before done
  one_fronts k before done is = by_entry (slice_get bs k) refl is where
    by_body : (b : Alternative) (o : Option Running) → slice_get bs k ≡ Some b → b.1 before ≡ o → (o >>= λ after. Some (true, after)) ≡ Some done → RoundFronts (one_runs bs k) before done
    by_body b None at e i = cc
    by_body b (Some after) at e i =
        let x = (each_at IsFront bs k b h at).body before after e in
        let both : ◌≡◌ {A = Bool × Running} (true, after) done = cc in
        subst (RoundFronts (one_runs bs k) before) both (record {
          taken = x.taken;
          front = x.front;
          same = λ rest. rw at (ap (λ o. o >>= λ t. Some (true, t)) (x.same rest));
        })

    by_entry : (o : Option Alternative) → slice_get bs k ≡ o → (o >>= λ b. b.1 before >>= λ after. Some (true, after)) ≡ Some done → RoundFronts (one_runs bs k) before done
    by_entry None at i = cc
    by_entry (Some b) at i = by_body b (b.1 before) at refl i

  round_fronts : (ready : List ℕ) (before : Running) (done : Bool × Running) → round bs ready before ≡ Some done → RoundFronts (round bs ready) before done
  round_fronts [] before done is =
      let both : ◌≡◌ {A = Bool × Running} (false, before) done = cc in
      subst (RoundFronts (round bs []) before) both (record { taken = []; front = refl; same = λ rest. refl })
  round_fronts (k ∷ []) before done is = let x = one_fronts k before done is in record { taken = x.taken; front = x.front; same = x.same }
  round_fronts (k ∷ l ∷ more) before done is = by_choice (takes options before.choices) refl is where
    options : List ℤ
    options = map pos (k ∷ l ∷ more)

    by_choice : (o : Option (ℤ × List ℤ)) → takes options before.choices ≡ o → (o >>= λ c. one_runs bs (unsigned_abs c.0) (with_choices before c.1)) ≡ Some done
        → RoundFronts (round bs (k ∷ l ∷ more)) before done
    by_choice None e i = cc
    by_choice (Some c) e i =
        let t = took options before.choices c e in
        let x = one_fronts (unsigned_abs c.0) (with_choices before c.1) done i in
        record {
          taken = c.0 ∷ x.taken;
          front = t.front ∙ ap (λ cs. c.0 ∷ cs) x.front;
          same = λ rest. ap (λ o. o >>= λ d. one_runs bs (unsigned_abs d.0) (with_choices before d.1)) (t.same (x.taken ++ rest)) ∙ x.same rest;
        }

  -- one round, and those after it where an alternative ran
  rounds_open : (n : ℕ) (r : Running) (ready : List ℕ) (ran : Bool) (mid : Running) → open_from 0 bs r ≡ Some ready → round bs ready r ≡ Some (ran, mid)
      → rounds (suc n) bs r ≡ (if ran then rounds n bs mid else Some mid)
  rounds_open n r ready ran mid e d = rw (e, d) refl

-- which alternatives are open does not hang on the choices
open_same : (i : ℕ) (bs : List Alternative) → Each IsFront bs → (r : Running) (rest : List ℤ) → open_from i bs (with_choices r rest) ≡ open_from i bs r
open_same i [] h r rest = refl
open_same i (b ∷ bs) h r rest = rw (h.0.guard r rest, open_same (i + 1) bs h.1 r rest) refl

more_rounds : (bs : List Alternative) → Each IsFront bs → (n : ℕ) → Fronts (rounds n bs) → Fronts (rounds (suc n) bs)
more_rounds bs h n later before after is = by_open (open_from 0 bs before) refl is where
  by_ran : (ready : List ℕ) (ran : Bool) (mid : Running) → open_from 0 bs before ≡ Some ready → round bs ready before ≡ Some (ran, mid)
      → (if ran then rounds n bs mid else Some mid) ≡ Some after → TakesFromFront (rounds (suc n) bs) before after
  by_ran ready true mid e d i =
      let x = round_fronts bs h ready before (true, mid) d in
      let y = later mid after i in
      record {
        taken = x.taken ++ y.taken;
        front = x.front ∙ ap (λ cs. x.taken ++ cs) y.front ∙ sym (append_assoc x.taken y.taken after.choices);
        same = λ rest.
            let all = (x.taken ++ y.taken) ++ rest in
            rounds_open bs h n (with_choices before all) ready true (with_choices mid (y.taken ++ rest)) (open_same 0 bs h before all ∙ e)
            (ap (λ cs. round bs ready (with_choices before cs)) (append_assoc x.taken y.taken rest) ∙ x.same (y.taken ++ rest))
            ∙ y.same rest;
      }
  by_ran ready false mid e d i =
      let x = round_fronts bs h ready before (false, mid) d in
      let ends : mid ≡ after = cc in
      subst (TakesFromFront (rounds (suc n) bs) before) ends (record {
        taken = x.taken;
        front = x.front;
        same = λ rest. rounds_open bs h n (with_choices before (x.taken ++ rest)) ready false (with_choices mid rest) (open_same 0 bs h before (x.taken ++ rest) ∙ e) (x.same rest);
      })

  by_round : (ready : List ℕ) (o : Option (Bool × Running)) → open_from 0 bs before ≡ Some ready → round bs ready before ≡ o
      → (o >>= λ done. if done.0 then rounds n bs done.1 else Some done.1) ≡ Some after → TakesFromFront (rounds (suc n) bs) before after
  by_round ready None e d i = cc
  by_round ready (Some done) e d i = by_ran ready done.0 done.1 e d i

  by_open : (o : Option (List ℕ)) → open_from 0 bs before ≡ o → (o >>= λ ready. round bs ready before >>= λ done. if done.0 then rounds n bs done.1 else Some done.1) ≡ Some after
      → TakesFromFront (rounds (suc n) bs) before after
  by_open None e i = cc
  by_open (Some ready) e i = by_round ready (round bs ready before) e refl i

rounds_front : (bs : List Alternative) → Each IsFront bs → (n : ℕ) → Fronts (rounds n bs)
rounds_front bs h zero = quiet_fronts Some (λ r rest. refl)
rounds_front bs h (suc n) = more_rounds bs h n (rounds_front bs h n)

-- ---- statements

module _ (value : Expr → List ℤ → List ℤ → List ℤ → Option ℤ) (messages : List (List WireField)) (inputs received : List ℤ) where
  abbrev does : Stmt → Doing
  does = exec value messages inputs received

  abbrev told : Branch → Alternative
  told = alternative value messages inputs received

  abbrev StmtFronts : Stmt → Type 0
  StmtFronts t = Fronts (does t)

  abbrev BranchFronts : Branch → Type 0
  BranchFronts b = IsFront (told b)

  skip_fronts : StmtFronts stmt.Skip
  skip_fronts = opened (does stmt.Skip) Some (λ r. open_.exec_skip value messages inputs received r) (quiet_fronts Some (λ r rest. refl))

  assign_fronts : (targets : List Target) (values : List Expr) → StmtFronts (stmt.Assign targets values)
  assign_fronts targets values =
      let d = assigned value messages inputs received targets values in
      opened (does (stmt.Assign targets values)) d (λ r. open_.exec_assign value messages inputs received r targets values) (quiet_fronts d (assigned_quiet value messages inputs received targets values))

  chosen_fronts : (target : Target) → Fronts (chosen value messages inputs received target)
  chosen_fronts target before after is = by_place (place_in value messages inputs received before target) refl is where
    options : List ℤ
    options = values_of target.range

    by_choice : (k : ℕ) (o : Option (ℤ × List ℤ)) → place_in value messages inputs received before target ≡ Some k → takes options before.choices ≡ o
        → (o >>= λ c. Some (record before { cells = slice_set before.cells k c.0; choices = c.1 })) ≡ Some after → TakesFromFront (chosen value messages inputs received target) before after
    by_choice k None at e i = cc
    by_choice k (Some c) at e i =
        let t = took options before.choices c e in
        let there : Running = record before { cells = slice_set before.cells k c.0; choices = c.1 } in
        let ends : there ≡ after = cc in
        subst (TakesFromFront (chosen value messages inputs received target) before) ends (record { taken = c.0 ∷ []; front = t.front; same = λ rest. rw (at, t.same rest) refl })

    by_place : (o : Option ℕ) → place_in value messages inputs received before target ≡ o
        → (o >>= λ k. takes options before.choices >>= λ c. Some (record before { cells = slice_set before.cells k c.0; choices = c.1 })) ≡ Some after
        → TakesFromFront (chosen value messages inputs received target) before after
    by_place None at i = cc
    by_place (Some k) at i = by_choice k (takes options before.choices) at refl i

  choose_fronts : (target : Target) → StmtFronts (stmt.Choose target)
  choose_fronts target = opened (does (stmt.Choose target)) (chosen value messages inputs received target) (λ r. open_.exec_choose value messages inputs received r target) (chosen_fronts target)

  send_fronts : (m : ℕ) (given : List Expr) (q : ℕ) → StmtFronts (stmt.Send m given q)
  send_fronts m given q =
      let d = sent value messages inputs received m given q in
      opened (does (stmt.Send m given q)) d (λ r. open_.exec_send value messages inputs received r m given q) (quiet_fronts d (sent_quiet value messages inputs received m given q))

  start_fronts : (t : ℕ) (delay : Expr) → StmtFronts (stmt.Start t delay)
  start_fronts t delay =
      let d = started value messages inputs received t delay in
      opened (does (stmt.Start t delay)) d (λ r. open_.exec_start value messages inputs received r t delay) (quiet_fronts d (started_quiet value messages inputs received t delay))

  stop_fronts : (t : ℕ) → StmtFronts (stmt.Stop t)
  stop_fronts t =
      let d : Doing = λ r. Some (with_timer t timer.Off r) in
      opened (does (stmt.Stop t)) d (λ r. open_.exec_stop value messages inputs received r t) (quiet_fronts d (λ r rest. refl))

  branches_front : (bs : List Branch) → Each BranchFronts bs → Each IsFront (map told bs)
  branches_front bs h = each_map BranchFronts IsFront told bs (λ b x. x) h

  selection_fronts : (bs : List Branch) → Each BranchFronts bs → StmtFronts (stmt.If bs)
  selection_fronts bs h =
      opened (does (stmt.If bs)) (rounds 1 (map told bs)) (λ r. open_.exec_if value messages inputs received r bs) (rounds_front (map told bs) (branches_front bs h) 1)

  loop_fronts : (n : ℕ) (bs : List Branch) → Each BranchFronts bs → StmtFronts (stmt.Loop n bs)
  loop_fronts n bs h =
      opened (does (stmt.Loop n bs)) (rounds n (map told bs)) (λ r. open_.exec_loop value messages inputs received r n bs) (rounds_front (map told bs) (branches_front bs h) n)

  body_fronts : (body : List Stmt) → Each StmtFronts body → Fronts (exec_all value messages inputs received body)
  body_fronts body h = all_fronts (map does body) (each_map StmtFronts Fronts does body (λ t x. x) h)

  branch_fronts : (guard : Expr) (body : List Stmt) → Each StmtFronts body → BranchFronts (record { guard = guard; body = body })
  branch_fronts guard body h =
      let b : Branch = record { guard = guard; body = body } in
      record {
        guard = λ r rest. open_.guard_branch value messages inputs received (with_choices r rest) guard body ∙ sym (open_.guard_branch value messages inputs received r guard body);
        body = opened (told b).1 (exec_all value messages inputs received body) (λ r. open_.body_branch value messages inputs received r guard body) (body_fronts body h);
      }

  stmt_fronts : (t : Stmt) → StmtFronts t
  stmt_fronts = of_stmt StmtFronts BranchFronts skip_fronts assign_fronts choose_fronts send_fronts start_fronts stop_fronts selection_fronts loop_fronts branch_fronts

pub all_front : ChoicesAreFront
all_front value messages inputs received stmts =
    body_fronts value messages inputs received stmts (each_of (StmtFronts value messages inputs received) stmts (stmt_fronts value messages inputs received))
