-- Every statement grows a tree where each of its deeds is sound: by one induction over statements and branches. With a list of
-- choices expressions have their values, and with a source what each is found to be.
use Rattle.std.proofs.Common.{◌≡◌, ◌<◌, ◌&&◌, ◌^◌, ℕ, suc, ℤ, pos, ◌<ℤ◌, unsigned_abs, Bool, true, false, if◌then◌else◌, List, [], ◌∷◌, ◌++◌, map, length, refl, ap, sym, subst, ◌∙◌, slice_get, slice_set, Option, Some, None, arith, int_le, int_lt}
use Rattle.std.specs.Prelude.{IfSome}
use Rattle.std.specs.List.{list_any}
use Rattle.std.specs.Option.{option_map}
use Rattle.std.specs.Ordering.{int_eq}
use Rattle.std.specs.Int.Signed.{≤ℤ_refl}
use Rattle.tap_base.specs.declared.place.Range.{Range}
use Rattle.tap_base.specs.declared.tree.Branch.{Branch}
use Rattle.tap_base.specs.declared.tree.Expr.{Expr}
use Rattle.tap_base.specs.declared.tree.Stmt.{Stmt}
use Rattle.tap_base.specs.declared.tree.Stmt.TheVariants as stmt
use Rattle.tap_base.specs.declared.tree.Target.{Target}
use Rattle.tap_base.specs.declared.wire.WireField.{WireField}
use Rattle.tap_base.specs.Lists.{Each}
use Rattle.tap_base.specs.Option.{◌>>=◌, provided}
use Rattle.tap_base.specs.Parts.{Deed, all_deeds, branch_deeds, deeds, joined as deeds_joined}
use Rattle.tap_base.specs.Ranges.{ranges_of, values_of}
use Rattle.tap_base.specs.Resolved.{IsOrdered}
use Rattle.tap_base.specs.Sends.{stmt_sends}
use Rattle.tap_base.proofs.ListFacts.{each_at, each_split}
use Rattle.tap_base.proofs.RangeFacts.{among_values, rising_values, within_decides}
use Rattle.tap_exec.specs.declared.running.Running.{Running as Open}
use Rattle.tap_exec.specs.declared.running.TimerState.TheVariants as timer
use Rattle.tap_exec.specs.Execution.{takes}
use Rattle.tap_exec.specs.Running.{Running}
use Rattle.tap_exec.specs.Sourced.{Alternative, Doing, Source, alternative, assigned, chosen, do_all, exec, exec_all, place_in, rounds, sent, started, value_in, with_timer}
use Rattle.tap_exec.specs.Value.{value_of}
use Rattle.tap_exec.proofs.Quiet.{Quiet, assigned_quiet, quiet_as, sent_quiet, started_quiet, with_choices}
use Rattle.tap_exec.proofs.StmtInduction.{of_stmt}
use Rattle.tap_exec.proofs.StmtOpen as exec_
use Rattle.abstract_run.specs.Safe.{IsFitRunning}
use Rattle.tap_exec.specs.Semantics.{ProcessSemantics, Semantics}
use Rattle.sound_bodies.proofs.Bodies.{DeedRuns, stmt_holds}
use Rattle.sound_bodies.proofs.DeedsOpen as open_
use Rattle.sound_bodies.proofs.GoOn.{CanRun}
use Rattle.sound_bodies.proofs.Going.{stmt_goes}
use Rattle.sound_bodies.proofs.Runs.{Leads, Runs}
use Rattle.sound_bodies.proofs.Simple.{Aims, Valuing, exact, placed}
use Rattle.drawn_choices.specs.Draws.{AreRising}
use Rattle.drawn_bodies.proofs.Grown.{AlwaysGrows, Both, BranchGrows, Branches, Grows, all_grow, grows_as, rounds_grow}
use Rattle.drawn_bodies.proofs.SourcedOpen as by_
use Rattle.drawn_bodies.proofs.Sources.{Same, assigned_same, sent_same, started_same}
use Rattle.drawn_bodies.proofs.Trees.{AreAsked, EachEnd, Gives, Tree, asks, ends, walk, walk_by, with_source}

-- ---- rising values

each_by : {A : Type 0} (P : A → Type 0) (xs : List A) → ((j : ℕ) (y : A) → slice_get xs j ≡ Some y → P y) → Each P xs
each_by P [] h = tt
each_by P (x ∷ xs) h = (h 0 x refl, each_by P xs (λ j. h (suc j)))

rising_by : (xs : List ℤ) → ((i j : ℕ) (x y : ℤ) → i < j → slice_get xs i ≡ Some x → slice_get xs j ≡ Some y → x <ℤ y) → AreRising xs
rising_by [] h = tt
rising_by (x ∷ xs) h = (each_by (λ (y : ℤ). x <ℤ y) xs (λ j y e. h 0 (suc j) x y (omega arith) refl e), rising_by xs (λ i j x y l. h (suc i) (suc j) x y (omega (arith, l))))

some_in : (x : ℤ) (xs : List ℤ) → list_any (int_eq x) xs ≡ true → 0 < length xs
some_in x [] e = absurd cc
some_in x (y ∷ ys) e = omega arith

-- the values of a range that has some can be asked for
values_asked : (range : Range) → IsOrdered range → AreAsked (values_of range)
values_asked range h =
    let low : list_any (int_eq range.lo) (values_of range) ≡ true = among_values range range.lo ∙ (within_decides range range.lo).1 (≤ℤ_refl range.lo, h) in
    (rising_by (values_of range) (rising_values range), some_in range.lo (values_of range) low)

module _ {C : Type 0} (source : Source C) (gives : Gives source) (semantics : Semantics) (p : ℕ) (process : ProcessSemantics) (value : Valuing) (inputs received : List ℤ)
    (ordered : Each IsOrdered (ranges_of process.vars)) where
  abbrev messages : List (List WireField)
  messages = semantics.messages

  abbrev Fit : Running → Type 0
  Fit = IsFitRunning process

  fit_with : (r : Running) (rest : List ℤ) → Fit r → Fit (with_choices r rest)
  fit_with r rest h = record { cells = h.cells; counted = h.counted; timers = h.timers }

  fit_without : (r : Running) (rest : List ℤ) → Fit (with_choices r rest) → Fit r
  fit_without r rest h = record { cells = h.cells; counted = h.counted; timers = h.timers }

  -- the deeds are sound, by value and by what is found
  abbrev MetBy : Valuing → List Deed → Type 0
  MetBy v = Each (DeedRuns semantics p process v inputs received)

  abbrev Met : List Deed → Type 0
  Met ds = MetBy exact ds × MetBy value ds

  met_as : (ds es : List Deed) → ds ≡ es → Met ds → Met es
  met_as ds es e h = (subst (MetBy exact) e h.0, subst (MetBy value) e h.1)

  met_split : (ds es : List Deed) → Met (ds ++ es) → Met ds × Met es
  met_split ds es h =
      let a = each_split (DeedRuns semantics p process exact inputs received) ds es h.0 in
      let b = each_split (DeedRuns semantics p process value inputs received) ds es h.1 in
      ((a.0, b.0), (a.1, b.1))

  abbrev by_value : Stmt → Doing (List ℤ)
  by_value = exec exact semantics.messages inputs received takes

  abbrev by_source : Stmt → Doing C
  by_source = exec value semantics.messages inputs received source

  abbrev told : Branch → Alternative (List ℤ)
  told = alternative exact semantics.messages inputs received takes

  abbrev found : Branch → Alternative C
  found = alternative value semantics.messages inputs received source

  abbrev Grow : Doing (List ℤ) → Doing C → Type 0
  Grow = AlwaysGrows source gives Fit

  abbrev Goes : Stmt → Type 0
  Goes t = Met (deeds t) → Grow (by_value t) (by_source t)

  abbrev GoesOf : Branch → Type 0
  GoesOf b = Met (branch_deeds b) → BranchGrows source gives Fit (told b, found b)

  -- ---- without choices

  some_source : (c : C) (o : Option Running) (u : Running) → o ≡ Some u → option_map (λ (t : Running). with_source t c) o ≡ Some (with_source u c)
  some_source c o u e = ap (option_map (λ (t : Running). with_source t c)) e

  quiet_end : (d found_ : Doing (List ℤ)) (e : Doing C) (r t : Running) (xs : List ℤ) (o : Option Running) → d r ≡ o → found_ r ≡ o → Fit t → option_map (λ u. with_choices u xs) o ≡ Some (with_choices t []) → Quiet d → Same found_ e
      → Grows source gives Fit d e r
  quiet_end d found_ e r t xs None is same fit end q s = absurd cc
  quiet_end d found_ e r t xs (Some u) is same fit end q s =
      let as_ : with_choices u xs ≡ with_choices t [] = cc in
      let fits : Fit u = fit_without u xs (subst Fit (sym as_) (fit_with t [] fit)) in
      record {
        tree = ends u;
        good = fits;
        same = λ cs. q r cs ∙ ap (option_map (λ v. with_choices v cs)) is;
        also = λ c. s r c ∙ some_source c (found_ r) u same;
      }

  -- it does the same by value as what is found, from what fits, and the same with the source
  quiet_grows : (d found_ : Doing (List ℤ)) (e : Doing C) (r : Running) → found_ r ≡ d r → Quiet d → Same found_ e → CanRun semantics p process d r → Grows source gives Fit d e r
  quiet_grows d found_ e r is q s h = let xs = h.choices ++ [] in quiet_end d found_ e r h.after xs (d r) refl is h.fit (sym (q r xs) ∙ h.runs []) q s

  quiet_goes : (t : Stmt) (d found_ : Doing (List ℤ)) (e : Doing C) → ((r : Running) → by_value t r ≡ d r) → ((r : Running) → exec value semantics.messages inputs received takes t r ≡ found_ r)
      → ((r : Open C) → by_source t r ≡ e r) → Quiet d → Same found_ e → Goes t
  quiet_goes t d found_ e by_list by_found by_sourced q s met r fit =
      let runs = stmt_holds semantics p process value inputs received t met.1 r fit in
      let agree : found_ r ≡ by_value t r = sym (by_found r) ∙ runs.same in
      quiet_grows (by_value t) found_ (by_source t) r agree (quiet_as (by_value t) d by_list q) (λ r c. by_sourced (with_source r c) ∙ s r c)
      (stmt_goes semantics p process inputs received ordered t met.0 r fit)

  skip_goes : Goes stmt.Skip
  skip_goes =
      quiet_goes stmt.Skip Some Some Some (λ r. exec_.exec_skip exact messages inputs received r) (λ r. exec_.exec_skip value messages inputs received r)
      (λ r. by_.exec_skip value messages inputs received source r) (λ r rest. refl) (λ r c. refl)

  assign_goes : (targets : List Target) (values : List Expr) → Goes (stmt.Assign targets values)
  assign_goes targets values =
      quiet_goes (stmt.Assign targets values) (assigned exact messages inputs received targets values) (assigned value messages inputs received targets values) (assigned value messages inputs received targets values)
      (λ r. exec_.exec_assign exact messages inputs received r targets values) (λ r. exec_.exec_assign value messages inputs received r targets values)
      (λ r. by_.exec_assign value messages inputs received source r targets values) (assigned_quiet exact messages inputs received targets values) (assigned_same value messages inputs received targets values)

  send_goes : (m : ℕ) (values : List Expr) (q : ℕ) → Goes (stmt.Send m values q)
  send_goes m values q =
      quiet_goes (stmt.Send m values q) (sent exact messages inputs received m values q) (sent value messages inputs received m values q) (sent value messages inputs received m values q)
      (λ r. exec_.exec_send exact messages inputs received r m values q) (λ r. exec_.exec_send value messages inputs received r m values q)
      (λ r. by_.exec_send value messages inputs received source r m values q) (sent_quiet exact messages inputs received m values q) (sent_same value messages inputs received m values q)

  start_goes : (t : ℕ) (delay : Expr) → Goes (stmt.Start t delay)
  start_goes t delay =
      quiet_goes (stmt.Start t delay) (started exact messages inputs received t delay) (started value messages inputs received t delay) (started value messages inputs received t delay)
      (λ r. exec_.exec_start exact messages inputs received r t delay) (λ r. exec_.exec_start value messages inputs received r t delay)
      (λ r. by_.exec_start value messages inputs received source r t delay) (started_quiet exact messages inputs received t delay) (started_same value messages inputs received t delay)

  stop_goes : (t : ℕ) → Goes (stmt.Stop t)
  stop_goes t =
      quiet_goes (stmt.Stop t) (λ r. Some (with_timer t timer.Off r)) (λ r. Some (with_timer t timer.Off r)) (λ r. Some (with_timer t timer.Off r))
      (λ r. exec_.exec_stop exact messages inputs received r t) (λ r. exec_.exec_stop value messages inputs received r t)
      (λ r. by_.exec_stop value messages inputs received source r t) (λ r rest. refl) (λ r c. refl)

  -- ---- a choice

  -- what follows a choice, by whether it is an option
  abbrev follows : Bool → Running → Running → Tree
  follows b written r = if b then ends written else ends r

  led : (n : ℕ) (r t : Running) (o : Option Running) → o ≡ Some t → IfSome o (Leads semantics p process n r) → Fit t
  led n r t None e h = absurd cc
  led n r t (Some u) e h = let same : u ≡ t = cc in subst Fit same h.fit

  choose_goes : (target : Target) → Goes (stmt.Choose target)
  choose_goes target met r fit = record {
    tree = asks options (λ x. follows (list_any (int_eq x) options) (written x) r);
    same = λ cs. exec_.exec_choose exact messages inputs received (with_choices r cs) target ∙ opened cs ∙ by_choices cs;
    also = λ c. by_.exec_choose value messages inputs received source (with_source r c) target ∙ opened_by c ∙ by_given c (source options c) refl;
    good = (values_asked target.range in_order, λ x. fits x (list_any (int_eq x) options) refl);
  } where
    options : List ℤ
    options = values_of target.range

    m : Aims semantics p process value inputs received target
    m = (subst (MetBy value) (open_.deeds_choose target) met.1).0

    place : ℕ
    place = (placed semantics p process value inputs received r fit target m).place

    is_placed : place_in exact messages inputs received r target ≡ Some place
    is_placed = (placed semantics p process value inputs received r fit target m).exactly

    found_there : place_in value messages inputs received r target ≡ Some place
    found_there = (placed semantics p process value inputs received r fit target m).machine

    in_order : IsOrdered target.range
    in_order = each_at IsOrdered (ranges_of process.vars) place target.range ordered (placed semantics p process value inputs received r fit target m).range

    written : ℤ → Running
    written x = record r { cells = slice_set r.cells place x }

    after : ℤ × List ℤ → Option Running
    after c = Some (with_choices (written c.0) c.1)

    after_by : ℤ × C → Option (Open C)
    after_by c = Some (with_source (written c.0) c.1)

    opened : (cs : List ℤ) → chosen exact messages inputs received takes target (with_choices r cs) ≡ (takes options cs >>= after)
    opened cs = let at = is_placed in rw at refl

    opened_by : (c : C) → chosen value messages inputs received source target (with_source r c) ≡ (source options c >>= after_by)
    opened_by c = let at = found_there in rw at refl

    by_test : (x : ℤ) (rest : List ℤ) (b : Bool) → (let c : ℤ × List ℤ = (x, rest) in provided b c >>= after) ≡ (if b then walk (follows b (written x) r) rest else None)
    by_test x rest true = refl
    by_test x rest false = refl

    by_choices : (cs : List ℤ) → (takes options cs >>= after) ≡ walk (asks options (λ x. follows (list_any (int_eq x) options) (written x) r)) cs
    by_choices [] = refl
    by_choices (x ∷ rest) = by_test x rest (list_any (int_eq x) options)

    by_given : (c : C) (o : Option (ℤ × C)) → source options c ≡ o → (o >>= after_by) ≡ (o >>= λ x. walk_by source (follows (list_any (int_eq x.0) options) (written x.0) r) x.1)
    by_given c None e = refl
    by_given c (Some x) e = ap (λ (b : Bool). walk_by source (follows b (written x.0) r) x.1) (sym (gives options c x.0 x.1 e))

    fits : (x : ℤ) (b : Bool) → list_any (int_eq x) options ≡ b → EachEnd Fit (follows b (written x) r)
    fits x true e =
        let before = with_choices r (x ∷ []) in
        let c : ℤ × List ℤ = (x, []) in
        let runs : Runs semantics p process (stmt_sends (stmt.Choose target)) (by_value (stmt.Choose target)) (by_value (stmt.Choose target)) before =
        stmt_holds semantics p process exact inputs received (stmt.Choose target) met.0 before (fit_with r (x ∷ []) fit) in
        let is : by_value (stmt.Choose target) before ≡ Some (with_choices (written x) []) =
        exec_.exec_choose exact messages inputs received before target ∙ opened (x ∷ []) ∙ ap (λ (b : Bool). provided b c >>= after) e in
        fit_without (written x) [] (led (stmt_sends (stmt.Choose target)) before (with_choices (written x) []) (by_value (stmt.Choose target) before) is runs.leads)
    fits x false e = fit

  -- ---- branches and lists

  abbrev pairs : List Branch → List (Branches source gives Fit)
  pairs bs = map (λ b. (told b, found b)) bs

  abbrev doings : List Stmt → List (Both source gives Fit)
  doings ts = map (λ t. (by_value t, by_source t)) ts

  listed_pairs : (bs : List Branch) → map (λ b. b.0) (pairs bs) ≡ map told bs
  listed_pairs [] = refl
  listed_pairs (b ∷ bs) = ap (λ xs. told b ∷ xs) (listed_pairs bs)

  sourced_pairs : (bs : List Branch) → map (λ b. b.1) (pairs bs) ≡ map found bs
  sourced_pairs [] = refl
  sourced_pairs (b ∷ bs) = ap (λ xs. found b ∷ xs) (sourced_pairs bs)

  listed_doings : (ts : List Stmt) → map (λ d. d.0) (doings ts) ≡ map by_value ts
  listed_doings [] = refl
  listed_doings (t ∷ ts) = ap (λ xs. by_value t ∷ xs) (listed_doings ts)

  sourced_doings : (ts : List Stmt) → map (λ d. d.1) (doings ts) ≡ map by_source ts
  sourced_doings [] = refl
  sourced_doings (t ∷ ts) = ap (λ xs. by_source t ∷ xs) (sourced_doings ts)

  all_branches : (bs : List Branch) → Each GoesOf bs → Met (deeds_joined (map branch_deeds bs)) → Each (BranchGrows source gives Fit) (pairs bs)
  all_branches [] h met = tt
  all_branches (b ∷ bs) h met = let m = met_split (branch_deeds b) (deeds_joined (map branch_deeds bs)) met in (h.0 m.0, all_branches bs h.1 m.1)

  all_stmts : (ts : List Stmt) → Each Goes ts → Met (all_deeds ts) → Each (λ d. Grow d.0 d.1) (doings ts)
  all_stmts [] h met = tt
  all_stmts (t ∷ ts) h met = let m = met_split (deeds t) (all_deeds ts) met in (h.0 m.0, all_stmts ts h.1 m.1)

  -- rounds of branches, and statements one after the other
  rounds_go : (n : ℕ) (bs : List Branch) → Each (BranchGrows source gives Fit) (pairs bs) → Grow (rounds takes n (map told bs)) (rounds source n (map found bs))
  rounds_go n bs h =
      subst (λ xs. Grow (rounds takes n xs) (rounds source n (map found bs))) (listed_pairs bs)
      (subst (λ ys. Grow (rounds takes n (map (λ b. b.0) (pairs bs))) (rounds source n ys)) (sourced_pairs bs) (rounds_grow source gives Fit (pairs bs) h n))

  all_go : (ts : List Stmt) → Each (λ d. Grow d.0 d.1) (doings ts) → Grow (do_all (map by_value ts)) (do_all (map by_source ts))
  all_go ts h =
      subst (λ xs. Grow (do_all xs) (do_all (map by_source ts))) (listed_doings ts)
      (subst (λ ys. Grow (do_all (map (λ d. d.0) (doings ts))) (do_all ys)) (sourced_doings ts) (all_grow source gives Fit (doings ts) h))

  selection_goes : (bs : List Branch) → Each GoesOf bs → Goes (stmt.If bs)
  selection_goes bs h met r fit =
      grows_as source gives Fit (by_value (stmt.If bs)) (rounds takes 1 (map told bs)) (by_source (stmt.If bs)) (rounds source 1 (map found bs)) r
      (λ t. exec_.exec_if exact messages inputs received t bs) (λ t. by_.exec_if value messages inputs received source t bs)
      (rounds_go 1 bs (all_branches bs h (met_as _ _ (open_.deeds_if bs) met)) r fit)

  loop_goes : (n : ℕ) (bs : List Branch) → Each GoesOf bs → Goes (stmt.Loop n bs)
  loop_goes n bs h met r fit =
      let m = met_as _ _ (open_.deeds_loop n bs) met in
      grows_as source gives Fit (by_value (stmt.Loop n bs)) (rounds takes n (map told bs)) (by_source (stmt.Loop n bs)) (rounds source n (map found bs)) r
      (λ t. exec_.exec_loop exact messages inputs received t n bs) (λ t. by_.exec_loop value messages inputs received source t n bs)
      (rounds_go n bs (all_branches bs h (m.0.1, m.1.1)) r fit)

  branch_goes : (guard : Expr) (body : List Stmt) → Each Goes body → GoesOf (record { guard = guard; body = body })
  branch_goes guard body h met =
      let b : Branch = record { guard = guard; body = body } in
      let m = met_as _ _ (open_.deeds_branch guard body) met in
      record {
        test = λ r. int_eq (value_of guard r.cells inputs received) (pos 1);
        tests = λ r fit rest. exec_.guard_branch exact messages inputs received (with_choices r rest) guard body;
        also = λ r fit c. let valued = m.1.0 r.cells fit.cells in by_.guard_branch value messages inputs received source (with_source r c) guard body ∙ rw valued refl;
        body = λ r fit. grows_as source gives Fit (told b).1 (exec_all exact semantics.messages inputs received takes body) (found b).1 (exec_all value semantics.messages inputs received source body) r
            (λ t. exec_.body_branch exact messages inputs received t guard body) (λ t. by_.body_branch value messages inputs received source t guard body)
            (all_go body (all_stmts body h (m.0.1, m.1.1)) r fit);
      }

  stmt_grows : (t : Stmt) → Goes t
  stmt_grows = of_stmt Goes GoesOf skip_goes assign_goes choose_goes send_goes start_goes stop_goes selection_goes loop_goes branch_goes

  each_goes : (ts : List Stmt) → Each Goes ts
  each_goes [] = tt
  each_goes (t ∷ ts) = (stmt_grows t, each_goes ts)

  pub body_grows : (body : List Stmt) → Met (all_deeds body) → (r : Running) → IsFitRunning process r
      → Grows source gives (IsFitRunning process) (exec_all exact semantics.messages inputs received takes body) (exec_all value semantics.messages inputs received source body) r
  body_grows body met r fit = all_go body (all_stmts body (each_goes body) met) r fit
