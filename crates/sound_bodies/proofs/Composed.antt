-- Selections, loops and lists of statements are sound where their parts are.
use Rattle.std.proofs.Common.{◌≡◌, ◌≤◌, ◌+◌, ◌*◌, ℕ, zero, suc, ℤ, pos, unsigned_abs, Bool, true, false, if◌then◌else◌, List, [], ◌∷◌, ◌++◌, map, sum, refl, ap, sym, subst, ◌∙◌, Option, None, Some, arith, append-nil, append_assoc, length-append}
use Rattle.std.specs.Prelude.{IfSome}
use Rattle.std.specs.List.{fold, list_any}
use Rattle.std.specs.Ordering.{int_eq}
use Rattle.tap_base.specs.Option.{◌>>=◌, provided}
use Rattle.tap_base.proofs.ListFacts.{each_append}
use Rattle.tap_exec.specs.Running.{Running}
use Rattle.tap_exec.specs.Execution.{Alternative, Doing, one_runs, do_all, open_from, takes, round, rounds}
use Rattle.byte_meaning.specs.Messages.{IsFitSend}
use Rattle.abstract_run.specs.Safe.{IsFitRunning}
use Rattle.tap_exec.specs.Semantics.{ProcessSemantics, Semantics}
use Rattle.sound_bodies.proofs.Runs.{Leads, Runs}

sum_shift : (a : ℕ) (ns : List ℕ) → fold ◌+◌ a ns ≡ a + fold ◌+◌ 0 ns
sum_shift a [] = omega arith
sum_shift a (n ∷ ns) = omega (arith, sum_shift (a + n) ns, sum_shift (0 + n) ns)

sum_more : (n : ℕ) (ns : List ℕ) → n + sum ns ≡ sum (n ∷ ns)
sum_more n ns = omega (arith, sum_shift (0 + n) ns)

module _ (semantics : Semantics) (p : ℕ) (process : ProcessSemantics) where
  abbrev pub Lead : ℕ → Running → Running → Type 0
  Lead = Leads semantics p process

  abbrev pub Fit : Running → Type 0
  Fit = IsFitRunning process

  pub leads_more : (m n : ℕ) (r t : Running) → m ≤ n → Lead m r t → Lead n r t
  leads_more m n r t l h = record { fit = h.fit; sends = h.sends; sent = h.sent; sound = h.sound; few = omega (arith, l, h.few) }

  pub stays : (r : Running) (n : ℕ) → Fit r → Lead n r r
  stays r n h = record { fit = h; sends = []; sent = sym (append-nil r.sends); sound = tt; few = omega arith }

  -- one after the other
  leads_on : (m n : ℕ) (r t u : Running) → Lead m r t → Lead n t u → Lead (m + n) r u
  leads_on m n r t u h k = record {
    fit = k.fit;
    sends = h.sends ++ k.sends;
    sent = k.sent ∙ ap (λ xs. xs ++ k.sends) h.sent ∙ append_assoc r.sends h.sends k.sends;
    sound = each_append (IsFitSend semantics p) h.sends k.sends h.sound k.sound;
    few = omega (arith, h.few, k.few, length-append h.sends k.sends);
  }

  -- what runs whatever it begins with
  abbrev pub AlwaysRuns : ℕ → Doing → Doing → Type 0
  AlwaysRuns n c d = (r : Running) → Fit r → Runs semantics p process n c d r

  if_some_on : (m n : ℕ) (r t : Running) (o : Option Running) → Lead m r t → IfSome o (Lead n t) → IfSome o (Lead (m + n) r)
  if_some_on m n r t None h k = tt
  if_some_on m n r t (Some u) h k = leads_on m n r t u h k

  -- what is the same, and leads on
  abbrev Both : ℕ → Running → Option Running → Option Running → Type 0
  Both n r q o = (q ≡ o) × IfSome o (Lead n r)

  then_both : (m n : ℕ) (e f : Doing) (r : Running) (q o : Option Running) → q ≡ o → IfSome o (Lead m r) → AlwaysRuns n e f → Both (m + n) r (q >>= e) (o >>= f)
  then_both m n e f r q None is l k = (ap (λ x. x >>= e) is, tt)
  then_both m n e f r q (Some t) is l k = let next = k t l.fit in (ap (λ x. x >>= e) is ∙ next.same, if_some_on m n r t (f t) l next.leads)

  pub then_runs : (m n : ℕ) (c d e f : Doing) (r : Running) → Runs semantics p process m c d r → AlwaysRuns n e f → Runs semantics p process (m + n) (λ x. c x >>= e) (λ x. d x >>= f) r
  then_runs m n c d e f r h k = let b = then_both m n e f r (c r) (d r) h.same h.leads k in record { same = b.0; leads = b.1 }

  -- ---- lists

  abbrev pub AllRun : List ℕ → List Doing → List Doing → Type 0
  AllRun [] [] [] = Unit {0}
  AllRun (n ∷ ns) (c ∷ cs) (d ∷ ds) = AlwaysRuns n c d × AllRun ns cs ds
  AllRun _ _ _ = ⊥

  pub all_run : (ns : List ℕ) (cs ds : List Doing) → AllRun ns cs ds → AlwaysRuns (sum ns) (do_all cs) (do_all ds)
  all_run [] [] [] h r fit = record { same = refl; leads = stays r 0 fit }
  all_run (n ∷ ns) (c ∷ cs) (d ∷ ds) h r fit =
      subst (λ k. Runs semantics p process k (do_all (c ∷ cs)) (do_all (d ∷ ds)) r) (sum_more n ns) (then_runs n (sum ns) c d (do_all cs) (do_all ds) r (h.0 r fit) (all_run ns cs ds h.1))
  all_run [] [] (d ∷ ds) h r fit = absurd h
  all_run [] (c ∷ cs) ds h r fit = absurd h
  all_run (n ∷ ns) [] ds h r fit = absurd h
  all_run (n ∷ ns) (c ∷ cs) [] h r fit = absurd h

  -- ---- branches

  -- the same test, and what runs behind it
  abbrev pub BranchRuns : ℕ → Alternative → Alternative → Type 0
  BranchRuns n c d = (r : Running) → Fit r → (c.0 r ≡ d.0 r) × Runs semantics p process n c.1 d.1 r

  abbrev pub AllBranches : List ℕ → List Alternative → List Alternative → Type 0
  AllBranches [] [] [] = Unit {0}
  AllBranches (n ∷ ns) (c ∷ cs) (d ∷ ds) = BranchRuns n c d × AllBranches ns cs ds
  AllBranches _ _ _ = ⊥

  open_same : (ns : List ℕ) (cs ds : List Alternative) → AllBranches ns cs ds → (i : ℕ) (r : Running) → Fit r → open_from i cs r ≡ open_from i ds r
  open_same [] [] [] h i r fit = refl
  open_same (n ∷ ns) (c ∷ cs) (d ∷ ds) h i r fit =
      let here = (h.0 r fit).0 in let later = open_same ns cs ds h.1 (i + 1) r fit in
      rw (here, later) refl
  open_same [] [] (d ∷ ds) h i r fit = absurd h
  open_same [] (c ∷ cs) ds h i r fit = absurd h
  open_same (n ∷ ns) [] ds h i r fit = absurd h
  open_same (n ∷ ns) (c ∷ cs) [] h i r fit = absurd h

  abbrev Rounded : Type 0
  Rounded = Bool × Running

  -- the same of what also says whether a branch ran
  abbrev Round : ℕ → Running → Option Rounded → Option Rounded → Type 0
  Round n r q o = (q ≡ o) × IfSome o (λ t. Lead n r t.1)

  abbrev ran : Option Running → Option Rounded
  ran o = o >>= λ t. let done : Rounded = (true, t) in Some done

  ran_both : (m n : ℕ) (r : Running) (q o : Option Running) → m ≤ n → q ≡ o → IfSome o (Lead m r) → Round n r (ran q) (ran o)
  ran_both m n r q None l e h = (ap ran e, tt)
  ran_both m n r q (Some t) l e h = (ap ran e, leads_more m n r t l h)

  round_more : (m n : ℕ) (r : Running) (q o : Option Rounded) → m ≤ n → Round m r q o → Round n r q o
  round_more m n r q None l h = (h.0, tt)
  round_more m n r q (Some t) l h = (h.0, leads_more m n r t.1 l h.1)

  one_both : (ns : List ℕ) (cs ds : List Alternative) → AllBranches ns cs ds → (k : ℕ) (r : Running) → Fit r → Round (sum ns) r (one_runs cs k r) (one_runs ds k r)
  one_both [] [] [] h k r fit = (refl, tt)
  one_both (n ∷ ns) (c ∷ cs) (d ∷ ds) h zero r fit =
      let one = (h.0 r fit).1 in ran_both n (sum (n ∷ ns)) r (c.1 r) (d.1 r) (omega (arith, sum_more n ns)) one.same one.leads
  one_both (n ∷ ns) (c ∷ cs) (d ∷ ds) h (suc k) r fit =
      round_more (sum ns) (sum (n ∷ ns)) r (one_runs cs k r) (one_runs ds k r) (omega (arith, sum_more n ns)) (one_both ns cs ds h.1 k r fit)
  one_both [] [] (d ∷ ds) h k r fit = absurd h
  one_both [] (c ∷ cs) ds h k r fit = absurd h
  one_both (n ∷ ns) [] ds h k r fit = absurd h
  one_both (n ∷ ns) (c ∷ cs) [] h k r fit = absurd h

  -- choices are not looked at
  fit_of : (r : Running) (rest : List ℤ) → Fit r → Fit (record r { choices = rest })
  fit_of r rest h = record { cells = h.cells; counted = h.counted; timers = h.timers }

  round_from : (n : ℕ) (r : Running) (rest : List ℤ) (q o : Option Rounded) → Round n (record r { choices = rest }) q o → Round n r q o
  round_from n r rest q None h = (h.0, tt)
  round_from n r rest q (Some t) h = let l = h.1 in (h.0, record { fit = l.fit; sends = l.sends; sent = l.sent; sound = l.sound; few = l.few })

  module _ (ns : List ℕ) (cs ds : List Alternative) (h : AllBranches ns cs ds) where
    abbrev chosen_in : List Alternative → Running → ℤ × List ℤ → Option Rounded
    chosen_in bs r c = one_runs bs (unsigned_abs c.0) (record r { choices = c.1 })

    by_test : (r : Running) → Fit r → (b : Bool) (c : ℤ × List ℤ) → Round (sum ns) r (provided b c >>= chosen_in cs r) (provided b c >>= chosen_in ds r)
    by_test r fit false c = (refl, tt)
    by_test r fit true c = round_from (sum ns) r c.1 (chosen_in cs r c) (chosen_in ds r c) (one_both ns cs ds h (unsigned_abs c.0) (record r { choices = c.1 }) (fit_of r c.1 fit))

    by_choices : (r : Running) → Fit r → (options xs : List ℤ) → Round (sum ns) r (takes options xs >>= chosen_in cs r) (takes options xs >>= chosen_in ds r)
    by_choices r fit options [] = (refl, tt)
    by_choices r fit options (x ∷ rest) = by_test r fit (list_any (int_eq x) options) (x, rest)

    round_both : (ready : List ℕ) (r : Running) → Fit r → Round (sum ns) r (round cs ready r) (round ds ready r)
    round_both [] r fit = (refl, stays r (sum ns) fit)
    round_both (k ∷ []) r fit = one_both ns cs ds h k r fit
    round_both (k ∷ l ∷ more) r fit = by_choices r fit (map pos (k ∷ l ∷ more)) r.choices

    abbrev next : ℕ → List Alternative → Rounded → Option Running
    next n bs done = if done.0 then rounds n bs done.1 else Some done.1

    abbrev rest_of : ℕ → List Alternative → Option (List ℕ) → Running → Option Running
    rest_of n bs o r = o >>= λ ready. round bs ready r >>= next n bs

    one_more : (n : ℕ) (r : Running) (done : Rounded) → AlwaysRuns (n * sum ns) (rounds n cs) (rounds n ds) → Lead (sum ns) r done.1 → Both (suc n * sum ns) r (next n cs done) (next n ds done)
    one_more n r (true, t) k l =
        let later = k t l.fit in
        let many : sum ns + n * sum ns ≡ suc n * sum ns = omega arith in
        (later.same, subst (λ m. IfSome (rounds n ds t) (Lead m r)) many (if_some_on (sum ns) (n * sum ns) r t (rounds n ds t) l later.leads))
    one_more n r (false, t) k l = (refl, leads_more (sum ns) (suc n * sum ns) r t (omega arith) l)

    after_round : (n : ℕ) (r : Running) (q o : Option Rounded) → AlwaysRuns (n * sum ns) (rounds n cs) (rounds n ds) → Round (sum ns) r q o → Both (suc n * sum ns) r (q >>= next n cs) (o >>= next n ds)
    after_round n r q None k t = (ap (λ x. x >>= next n cs) t.0, tt)
    after_round n r q (Some done) k t = let more = one_more n r done k t.1 in (ap (λ x. x >>= next n cs) t.0 ∙ more.0, more.1)

    after_open : (n : ℕ) (r : Running) → Fit r → (q o : Option (List ℕ)) → q ≡ o → AlwaysRuns (n * sum ns) (rounds n cs) (rounds n ds) → Both (suc n * sum ns) r (rest_of n cs q r) (rest_of n ds o r)
    after_open n r fit q None e k = (ap (λ x. rest_of n cs x r) e, tt)
    after_open n r fit q (Some ready) e k =
        let b = after_round n r (round cs ready r) (round ds ready r) k (round_both ready r fit) in (ap (λ x. rest_of n cs x r) e ∙ b.0, b.1)

    pub rounds_run : (n : ℕ) → AlwaysRuns (n * sum ns) (rounds n cs) (rounds n ds)
    rounds_run zero r fit = record { same = refl; leads = stays r (0 * sum ns) fit }
    rounds_run (suc n) r fit =
        let b = after_open n r fit (open_from 0 cs r) (open_from 0 ds r) (open_same ns cs ds h 0 r fit) (rounds_run n) in record { same = b.0; leads = b.1 }
