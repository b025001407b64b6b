-- Selections, loops and lists of statements can run where their parts can.
use Rattle.std.proofs.Common.{◌≡◌, ◌<◌, ◌+◌, ℕ, zero, suc, ℤ, pos, unsigned_abs, Bool, true, false, if◌then◌else◌, List, [], ◌∷◌, ◌++◌, map, length, refl, ap, subst, ◌∙◌, Option, None, Some, arith, rules, append_assoc}
use Rattle.std.specs.Prelude.{IfSome}
use Rattle.std.specs.List.{list_any}
use Rattle.std.specs.Ordering.{int_eq}
use Rattle.tap_base.specs.Lists.{Each}
use Rattle.tap_base.specs.Option.{◌>>=◌, provided}
use Rattle.tap_exec.specs.Running.{Running}
use Rattle.tap_exec.specs.Execution.{Alternative, Doing, do_all, one_runs, open_from, round, rounds}
use Rattle.abstract_run.specs.Safe.{IsFitRunning}
use Rattle.tap_exec.specs.Semantics.{ProcessSemantics, Semantics}
use Rattle.sound_bodies.proofs.Runs.{Leads, Runs}

-- the same, with these choices to come
abbrev pub with : Running → List ℤ → Running
with r choices = record r { choices = choices }

module _ (semantics : Semantics) (p : ℕ) (process : ProcessSemantics) where
  abbrev Fit : Running → Type 0
  Fit = IsFitRunning process

  fit_with : (r : Running) (rest : List ℤ) → Fit r → Fit (with r rest)
  fit_with r rest h = record { cells = h.cells; counted = h.counted; timers = h.timers }

  fit_without : (r : Running) (rest : List ℤ) → Fit (with r rest) → Fit r
  fit_without r rest h = record { cells = h.cells; counted = h.counted; timers = h.timers }

  -- it can run, and what it leaves fits
  pub record CanRun (d : Doing) (r : Running) : Type 0 where
    pub choices : List ℤ
    pub after : Running
    pub runs : (rest : List ℤ) → d (with r (choices ++ rest)) ≡ Some (with after rest)
    pub fit : Fit after

  abbrev pub AlwaysCan : Doing → Type 0
  AlwaysCan d = (r : Running) → Fit r → CanRun d r

  led : (n : ℕ) (r t : Running) (o : Option Running) → o ≡ Some t → IfSome o (Leads semantics p process n r) → Fit t
  led n r t None e h = cc
  led n r t (Some u) e h = let same : u ≡ t = cc in subst Fit same h.fit

  -- what runs leaves what fits
  pub can_run : (n : ℕ) (c d : Doing) (r : Running) (choices : List ℤ) (after : Running) → Fit r → ((t : Running) → Fit t → Runs semantics p process n c d t)
      → ((rest : List ℤ) → d (with r (choices ++ rest)) ≡ Some (with after rest)) → CanRun d r
  can_run n c d r choices after fit h runs = record {
    choices = choices;
    after = after;
    runs = runs;
    fit = let t = with r (choices ++ []) in fit_without after [] (led n t (with after []) (d t) (runs []) (h t (fit_with r (choices ++ []) fit)).leads);
  }

  -- ---- lists

  pub AllCan : List Doing → Type 0
  AllCan ds = Each AlwaysCan ds

  pub all_can : (ds : List Doing) → Each AlwaysCan ds → AlwaysCan (do_all ds)
  all_can [] h r fit = record { choices = []; after = r; runs = λ rest. refl; fit = fit }
  all_can (d ∷ ds) h r fit =
      let one = h.0 r fit in
      let more = all_can ds h.1 one.after one.fit in
      record {
        choices = one.choices ++ more.choices;
        after = more.after;
        runs = λ rest. ap (λ cs. d (with r cs) >>= do_all ds) (append_assoc one.choices more.choices rest) ∙ ap (λ o. o >>= do_all ds) (one.runs (more.choices ++ rest)) ∙ more.runs rest;
        fit = more.fit;
      }

  -- ---- branches

  -- a test of the cells, and what can run behind it
  pub record BranchCan (c : Alternative) : Type 0 where
    pub test : List ℤ → Running → Bool
    pub tests : (r : Running) → Fit r → c.0 r ≡ Some (test r.cells r)
    pub same : (r : Running) (rest : List ℤ) → test r.cells (with r rest) ≡ test r.cells r
    pub body : AlwaysCan c.1

  -- the branches that hold, whatever the choices
  record Ready (cs : List Alternative) (i : ℕ) (r : Running) : Type 0 where
    ready : List ℕ
    found : (rest : List ℤ) → open_from i cs (with r rest) ≡ Some ready
    within : Each (λ k. k < i + length cs) ready

  kept : (i n : ℕ) (b : Bool) (ks : List ℕ) → Each (λ k. k < i + 1 + n) ks → Each (λ k. k < i + suc n) (if b then i ∷ ks else ks)
  kept i n true ks h = (omega arith, wider ks h) where
    wider : (ks : List ℕ) → Each (λ k. k < i + 1 + n) ks → Each (λ k. k < i + suc n) ks
    wider [] h = tt
    wider (k ∷ ks) h = (omega (arith, h.0), wider ks h.1)
  kept i n false ks h = wider ks h where
    wider : (ks : List ℕ) → Each (λ k. k < i + 1 + n) ks → Each (λ k. k < i + suc n) ks
    wider [] h = tt
    wider (k ∷ ks) h = (omega (arith, h.0), wider ks h.1)

  ready_in : (cs : List Alternative) → Each BranchCan cs → (i : ℕ) (r : Running) → Fit r → Ready cs i r
  ready_in [] h i r fit = record { ready = []; found = λ rest. refl; within = tt }
  ready_in (c ∷ cs) h i r fit =
      let later = ready_in cs h.1 (i + 1) r fit in
      let b = h.0.test r.cells r in
      record {
        ready = if b then i ∷ later.ready else later.ready;
        found = λ rest.
            let here : c.0 (with r rest) ≡ Some b = h.0.tests (with r rest) (fit_with r rest fit) ∙ ap Some (h.0.same r rest) in
            let more = later.found rest in
            rw (here, more) refl;
        within = kept i (length cs) b later.ready later.within;
      }

  -- a round that can be made
  record CanRound (rounded : Running → Option (Bool × Running)) (r : Running) : Type 0 where
    choices : List ℤ
    ran : Bool
    after : Running
    runs : (rest : List ℤ) → rounded (with r (choices ++ rest)) ≡ Some (ran, with after rest)
    fit : Fit after

  one_can : (cs : List Alternative) → Each BranchCan cs → (k : ℕ) → k < length cs → (r : Running) → Fit r → CanRound (one_runs cs k) r
  one_can [] h k l r fit = absurd (omega (arith, l))
  one_can (c ∷ cs) h zero l r fit =
      let b = h.0.body r fit in
      record {
        choices = b.choices;
        ran = true;
        after = b.after;
        fit = b.fit;
        runs = λ rest. ap (λ o. o >>= λ t. let done : Bool × Running = (true, t) in Some done) (b.runs rest);
      }
  one_can (c ∷ cs) h (suc k) l r fit =
      let b = one_can cs h.1 k (omega (arith, l)) r fit in
      record { choices = b.choices; ran = b.ran; after = b.after; fit = b.fit; runs = b.runs }

  equal_test : (k : ℕ) → int_eq (pos k) (pos k) ≡ true
  equal_test k = search rules

  round_can : (cs : List Alternative) → Each BranchCan cs → (ready : List ℕ) → Each (λ k. k < length cs) ready → (r : Running) → Fit r → CanRound (round cs ready) r
  round_can cs h [] w r fit = record { choices = []; ran = false; after = r; fit = fit; runs = λ rest. refl }
  round_can cs h (k ∷ []) w r fit =
      let b = one_can cs h k w.0 r fit in record { choices = b.choices; ran = b.ran; after = b.after; fit = b.fit; runs = b.runs }
  round_can cs h (k ∷ l ∷ more) w r fit =
      let b = one_can cs h k w.0 r fit in
      let e = equal_test k in
      let among : list_any (int_eq (pos k)) (map pos (k ∷ l ∷ more)) ≡ true = rw e refl in
      record {
        choices = pos k ∷ b.choices;
        ran = b.ran;
        after = b.after;
        fit = b.fit;
        runs = λ rest.
            let next : ℤ × List ℤ = (pos k, b.choices ++ rest) in
            ap (λ t. provided t next >>= λ c. one_runs cs (unsigned_abs c.0) (with r c.1)) among ∙ b.runs rest;
      }

  abbrev next : ℕ → List Alternative → Bool × Running → Option Running
  next n bs done = if done.0 then rounds n bs done.1 else Some done.1

  narrow : (n : ℕ) (ks : List ℕ) → Each (λ k. k < 0 + n) ks → Each (λ k. k < n) ks
  narrow n [] h = tt
  narrow n (k ∷ ks) h = (omega (arith, h.0), narrow n ks h.1)

  by_ran : (cs : List Alternative) (n : ℕ) (r : Running) → AlwaysCan (rounds n cs) → (ready : Ready cs 0 r) (one : CanRound (round cs ready.ready) r) (b : Bool) → one.ran ≡ b → CanRun (rounds (suc n) cs) r
  by_ran cs n r again ready one true is =
      let more = again one.after one.fit in
      record {
        choices = one.choices ++ more.choices;
        after = more.after;
        fit = more.fit;
        runs = λ rest.
            let found = ready.found ((one.choices ++ more.choices) ++ rest) in
            let made : round cs ready.ready (with r ((one.choices ++ more.choices) ++ rest)) ≡ Some (true, with one.after (more.choices ++ rest)) =
            ap (λ xs. round cs ready.ready (with r xs)) (append_assoc one.choices more.choices rest) ∙ one.runs (more.choices ++ rest)
            ∙ ap (λ t. let done : Bool × Running = (t, with one.after (more.choices ++ rest)) in Some done) is in
            ap (λ o. o >>= λ ks. round cs ks (with r ((one.choices ++ more.choices) ++ rest)) >>= next n cs) found ∙ ap (λ o. o >>= next n cs) made ∙ more.runs rest;
      }
  by_ran cs n r again ready one false is = record {
    choices = one.choices;
    after = one.after;
    fit = one.fit;
    runs = λ rest.
        let found = ready.found (one.choices ++ rest) in
        let made : round cs ready.ready (with r (one.choices ++ rest)) ≡ Some (false, with one.after rest) =
        one.runs rest ∙ ap (λ t. let done : Bool × Running = (t, with one.after rest) in Some done) is in
        ap (λ o. o >>= λ ks. round cs ks (with r (one.choices ++ rest)) >>= next n cs) found ∙ ap (λ o. o >>= next n cs) made;
  }

  pub rounds_can : (cs : List Alternative) → Each BranchCan cs → (n : ℕ) → AlwaysCan (rounds n cs)
  rounds_can cs h zero r fit = record { choices = []; after = r; runs = λ rest. refl; fit = fit }
  rounds_can cs h (suc n) r fit =
      let ready = ready_in cs h 0 r fit in
      let one = round_can cs h ready.ready (narrow (length cs) ready.ready ready.within) r fit in
      by_ran cs n r (rounds_can cs h n) ready one one.ran refl
