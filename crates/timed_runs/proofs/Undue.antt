-- A body makes no timer due.
use Rattle.std.proofs.Common.{◌≡◌, ◌≢◌, ◌&&◌, ◌^◌, ℕ, zero, suc, ℤ, pos, int_le, int_lt, unsigned_abs, Bool, true, false, List, [], ◌∷◌, map, ap, sym, ◌∙◌, slice_get, slice_set, Option, Some, None, if◌then◌else◌}
use Rattle.std.proofs.lemmas.Option.{option_and_then_some}
use Rattle.tap_base.specs.Lists.{Each}
use Rattle.tap_base.specs.Option.{each, provided}
use Rattle.tap_base.specs.Ranges.{values_of}
use Rattle.tap_base.specs.declared.tree.Branch.{Branch}
use Rattle.tap_base.specs.declared.tree.Expr.{Expr}
use Rattle.tap_base.specs.declared.tree.Stmt.{Stmt}
use Rattle.tap_base.specs.declared.tree.Stmt.TheVariants as stmt
use Rattle.tap_base.specs.declared.tree.Target.{Target}
use Rattle.tap_base.specs.declared.wire.WireField.{WireField}
use Rattle.tap_base.proofs.ListFacts.{each_at, each_map, each_of}
use Rattle.tap_exec.specs.Running.{Running}
use Rattle.tap_exec.specs.declared.running.TimerState.{TimerState}
use Rattle.tap_exec.specs.declared.running.TimerState.TheVariants as timer
use Rattle.tap_exec.specs.Execution.{Alternative, Doing, alternative, assigned, chosen, do_all, exec, exec_all, execution, one_runs, open_from, place_in, round, rounds, sent, started, takes, value_in, with_timer, writes}
use Rattle.tap_exec.specs.Filling.{filled}
use Rattle.tap_exec.specs.Value.{value_of}
use Rattle.tap_exec.proofs.StmtInduction.{of_stmt}
use Rattle.tap_exec.proofs.StmtOpen as open_
use Rattle.timed_runs.specs.Delays.{NoneIsMadeDue}

-- what is done makes no timer due
abbrev Undue : Doing → Type 0
Undue d = (r after : Running) → d r ≡ Some after → NoneIsMadeDue r.timers after.timers

-- what does the same makes none due either
opened : (c d : Doing) → ((r : Running) → c r ≡ d r) → Undue d → Undue c
opened c d same h r after e = h r after (sym (same r) ∙ e)

-- ---- lists of timers

pub set_undue : (ts : List TimerState) (k : ℕ) (x : TimerState) → ((at : ℕ) → x ≢ timer.Due at) → NoneIsMadeDue ts (slice_set ts k x)
set_undue [] k x h t at e = e
set_undue (y ∷ ys) zero x h zero at e = absurd (h at cc)
set_undue (y ∷ ys) zero x h (suc t) at e = e
set_undue (y ∷ ys) (suc k) x h zero at e = e
set_undue (y ∷ ys) (suc k) x h (suc t) at e = set_undue ys k x h t at e

same_undue : (r after : Running) → after.timers ≡ r.timers → NoneIsMadeDue r.timers after.timers
same_undue r after same t at e = ap (λ ts. slice_get ts t) (sym same) ∙ e

-- ---- one after the other

do_all_undue : (ds : List Doing) → Each Undue ds → Undue (do_all ds)
do_all_undue [] h r after e = same_undue r after (ap (λ (s : Running). s.timers) (let same : after ≡ r = cc in same))
do_all_undue (d ∷ ds) h r after e = λ t at there.
    option_and_then_some _ (d r) after e (λ middle first rest. h.0 r middle first t at (do_all_undue ds h.1 middle after rest t at there))

-- ---- alternatives

abbrev AllUndue : List Alternative → Type 0
AllUndue bs = Each (λ (b : Alternative). Undue b.1) bs

-- what a round answers
abbrev Ran : Type 0
Ran = Bool × Running

same_ran : (r after : Running) (told ran : Bool) → ◌≡◌ {A = Option Ran} (Some (told, r)) (Some (ran, after)) → NoneIsMadeDue r.timers after.timers
same_ran r after told ran e = let both : ◌≡◌ {A = Ran} (told, r) (ran, after) = cc in same_undue r after (ap (λ (x : Ran). x.1.timers) (sym both))

one_undue : (bs : List Alternative) (k : ℕ) (r : Running) (ran : Bool) (after : Running) → AllUndue bs → ◌≡◌ {A = Option Ran} (one_runs bs k r) (Some (ran, after)) → NoneIsMadeDue r.timers after.timers
one_undue bs k r ran after h e = λ t at there.
    option_and_then_some _ (slice_get bs k) (ran, after) e (λ b is e1.
    option_and_then_some _ (b.1 r) (ran, after) e1 (λ middle did e2.
    each_at (λ (c : Alternative). Undue c.1) bs k b h is r middle did t at (same_ran middle after true ran e2 t at there)))

round_undue : (bs : List Alternative) (ready : List ℕ) (r : Running) (ran : Bool) (after : Running) → AllUndue bs → ◌≡◌ {A = Option Ran} (round bs ready r) (Some (ran, after)) → NoneIsMadeDue r.timers after.timers
round_undue bs [] r ran after h e = same_ran r after false ran e
round_undue bs (k ∷ []) r ran after h e = one_undue bs k r ran after h e
round_undue bs (k ∷ l ∷ more) r ran after h e = λ t at there.
    option_and_then_some _ (takes (map pos (k ∷ l ∷ more)) r.choices) (ran, after) e (λ taken is e1.
    one_undue bs (unsigned_abs taken.0) (record r { choices = taken.1 }) ran after h e1 t at there)

goes_on : (b : Bool) (n : ℕ) (bs : List Alternative) (middle after : Running) → Undue (rounds n bs) → (if b then rounds n bs middle else Some middle) ≡ Some after → NoneIsMadeDue middle.timers after.timers
goes_on true n bs middle after h e = h middle after e
goes_on false n bs middle after h e = let same : after ≡ middle = cc in same_undue middle after (ap (λ (s : Running). s.timers) same)

rounds_undue : (n : ℕ) (bs : List Alternative) → AllUndue bs → Undue (rounds n bs)
rounds_undue zero bs h r after e = let same : after ≡ r = cc in same_undue r after (ap (λ (s : Running). s.timers) same)
rounds_undue (suc n) bs h r after e = λ t at there.
    option_and_then_some _ (open_from 0 bs r) after e (λ ready is e1.
    option_and_then_some _ (round bs ready r) after e1 (λ done did e2.
    round_undue bs ready r done.0 done.1 h did t at (goes_on done.0 n bs done.1 after (rounds_undue n bs h) e2 t at there)))

-- ---- statements

module _ (value : Expr → List ℤ → List ℤ → List ℤ → Option ℤ) (messages : List (List WireField)) (inputs received : List ℤ) where
  abbrev does : Stmt → Doing
  does = exec value messages inputs received

  abbrev told : Branch → Alternative
  told = alternative value messages inputs received

  abbrev StmtUndue : Stmt → Type 0
  StmtUndue s = Undue (does s)

  abbrev BranchUndue : Branch → Type 0
  BranchUndue b = Undue (told b).1

  skip_undue : StmtUndue stmt.Skip
  skip_undue r after e =
      let same : after ≡ r = let left = sym (open_.exec_skip value messages inputs received r) ∙ e in cc in
      same_undue r after (ap (λ (s : Running). s.timers) same)

  assigned_undue : (targets : List Target) (values : List Expr) → Undue (assigned value messages inputs received targets values)
  assigned_undue targets values r after e = λ t at there.
      option_and_then_some _ (each (place_in value messages inputs received r) targets) after e (λ places is e1.
      option_and_then_some _ (each (value_in value messages inputs received r) values) after e1 (λ numbers are e2.
      let same : after ≡ record r { cells = writes places numbers r.cells } = cc in same_undue r after (ap (λ (s : Running). s.timers) same) t at there))

  assign_undue : (targets : List Target) (values : List Expr) → StmtUndue (stmt.Assign targets values)
  assign_undue targets values =
      opened (does (stmt.Assign targets values)) (assigned value messages inputs received targets values) (λ r. open_.exec_assign value messages inputs received r targets values) (assigned_undue targets values)

  chosen_undue : (target : Target) → Undue (chosen value messages inputs received target)
  chosen_undue target r after e = λ t at there.
      option_and_then_some _ (place_in value messages inputs received r target) after e (λ place is e1.
      option_and_then_some _ (takes (values_of target.range) r.choices) after e1 (λ taken are e2.
      let same : after ≡ record r { cells = slice_set r.cells place taken.0; choices = taken.1 } = cc in same_undue r after (ap (λ (s : Running). s.timers) same) t at there))

  choose_undue : (target : Target) → StmtUndue (stmt.Choose target)
  choose_undue target = opened (does (stmt.Choose target)) (chosen value messages inputs received target) (λ r. open_.exec_choose value messages inputs received r target) (chosen_undue target)

  sent_undue : (m : ℕ) (given : List Expr) (q : ℕ) → Undue (sent value messages inputs received m given q)
  sent_undue m given q r after e = λ t at there.
      option_and_then_some _ (slice_get messages m) after e (λ fields is e1.
      option_and_then_some _ (each (value_in value messages inputs received r) given) after e1 (λ numbers are e2.
      option_and_then_some _ (filled fields numbers) after e2 (λ values fill e3.
      let same : r.timers ≡ after.timers = ap timers_in e3 in same_undue r after (sym same) t at there))) where
        timers_in : Option Running → List TimerState
        timers_in None = r.timers
        timers_in (Some u) = u.timers

  send_undue : (m : ℕ) (given : List Expr) (q : ℕ) → StmtUndue (stmt.Send m given q)
  send_undue m given q = opened (does (stmt.Send m given q)) (sent value messages inputs received m given q) (λ r. open_.exec_send value messages inputs received r m given q) (sent_undue m given q)

  started_undue : (k : ℕ) (delay : Expr) → Undue (started value messages inputs received k delay)
  started_undue k delay r after e = λ t at there.
      option_and_then_some _ (value_in value messages inputs received r delay) after e (λ d is e1.
      option_and_then_some _ (provided (int_le (pos 0) d && int_lt d (pos (2 ^ 32))) (unsigned_abs d)) after e1 (λ wait are e2.
      let same : after ≡ with_timer k (timer.Armed wait) r = cc in
      set_undue r.timers k (timer.Armed wait) (λ at e. cc) t at (ap (λ (s : Running). slice_get s.timers t) (sym same) ∙ there)))

  start_undue : (k : ℕ) (delay : Expr) → StmtUndue (stmt.Start k delay)
  start_undue k delay = opened (does (stmt.Start k delay)) (started value messages inputs received k delay) (λ r. open_.exec_start value messages inputs received r k delay) (started_undue k delay)

  stop_undue : (k : ℕ) → StmtUndue (stmt.Stop k)
  stop_undue k r after e = λ t at there.
      let same : after ≡ with_timer k timer.Off r = let left = sym (open_.exec_stop value messages inputs received r k) ∙ e in cc in
      set_undue r.timers k timer.Off (λ at e. cc) t at (ap (λ (s : Running). slice_get s.timers t) (sym same) ∙ there)

  all_told : (bs : List Branch) → Each BranchUndue bs → AllUndue (map told bs)
  all_told bs = each_map BranchUndue (λ (b : Alternative). Undue b.1) told bs (λ b h. h)

  if_undue : (bs : List Branch) → Each BranchUndue bs → StmtUndue (stmt.If bs)
  if_undue bs h = opened (does (stmt.If bs)) (rounds 1 (map told bs)) (λ r. open_.exec_if value messages inputs received r bs) (rounds_undue 1 (map told bs) (all_told bs h))

  loop_undue : (n : ℕ) (bs : List Branch) → Each BranchUndue bs → StmtUndue (stmt.Loop n bs)
  loop_undue n bs h = opened (does (stmt.Loop n bs)) (rounds n (map told bs)) (λ r. open_.exec_loop value messages inputs received r n bs) (rounds_undue n (map told bs) (all_told bs h))

  body_undue : (ss : List Stmt) → Each StmtUndue ss → Undue (exec_all value messages inputs received ss)
  body_undue ss h = do_all_undue (map does ss) (each_map StmtUndue Undue does ss (λ s d. d) h)

  branch_undue : (guard : Expr) (body : List Stmt) → Each StmtUndue body → BranchUndue (record { guard = guard; body = body })
  branch_undue guard body h =
      opened (told (record { guard = guard; body = body })).1 (exec_all value messages inputs received body) (λ r. open_.body_branch value messages inputs received r guard body) (body_undue body h)

  stmt_undue : (s : Stmt) → StmtUndue s
  stmt_undue = of_stmt StmtUndue BranchUndue skip_undue assign_undue choose_undue send_undue start_undue stop_undue if_undue loop_undue branch_undue

  pub exec_all_undue : (ss : List Stmt) → Undue (exec_all value messages inputs received ss)
  exec_all_undue ss = body_undue ss (each_of StmtUndue ss stmt_undue)

pub execution_undue : (messages : List (List WireField)) (inputs received : List ℤ) (ss : List Stmt) → Undue (execution messages inputs received ss)
execution_undue messages inputs received ss = exec_all_undue (λ e cells i r. Some (value_of e cells i r)) messages inputs received ss
