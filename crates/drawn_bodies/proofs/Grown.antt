-- What grows a tree: what is done one after the other, and rounds of branches, where their parts do. Each is done with a list
-- of choices, and in the same way with a source of choices.
use Rattle.std.proofs.Common.{◌≡◌, ◌<◌, ◌≤◌, ◌+◌, ℕ, zero, suc, ℤ, pos, ◌<ℤ◌, unsigned_abs, nat_lt, Bool, true, false, ◌||◌, if◌then◌else◌, List, [], ◌∷◌, map, length, refl, ap, sym, subst, ◌∙◌, slice_get, Option, Some, None, arith}
use Rattle.std.specs.List.{list_any}
use Rattle.std.specs.Ordering.{int_eq}
use Rattle.std.proofs.lemmas.Bool.Decides.{Decides-int_eq}
use Rattle.std.proofs.lemmas.Int.{ints}
use Rattle.tap_base.specs.Lists.{Each}
use Rattle.tap_base.specs.Option.{◌>>=◌, provided}
use Rattle.tap_base.proofs.ListFacts.{each_weaker, element_at}
use Rattle.tap_exec.specs.declared.running.Running.{Running as Open}
use Rattle.tap_exec.specs.Execution as listed
use Rattle.tap_exec.specs.Running.{Running}
use Rattle.tap_exec.specs.Sourced.{Alternative, Doing, Source, do_all, one_runs, open_from, round, rounds}
use Rattle.tap_exec.proofs.Quiet.{with_choices}
use Rattle.drawn_choices.specs.Draws.{AreRising}
use Rattle.drawn_bodies.proofs.Trees.{AreAsked, EachEnd, Gives, Tree, asks, ends, walk, walk_by, with_source}

module _ {C : Type 0} (source : Source C) (gives : Gives source) (Fit : Running → Type 0) where
  -- what is done with a list, and with the source
  abbrev pub Both : Type 0
  Both = Doing (List ℤ) × Doing C

  -- what it does from here is what a tree says, which ends in what fits
  pub record Grows (d : Doing (List ℤ)) (e : Doing C) (r : Running) : Type 0 where
    pub tree : Tree
    pub same : (cs : List ℤ) → d (with_choices r cs) ≡ walk tree cs
    pub also : (c : C) → e (with_source r c) ≡ walk_by source tree c
    pub good : EachEnd Fit tree

  abbrev pub AlwaysGrows : Doing (List ℤ) → Doing C → Type 0
  AlwaysGrows d e = (r : Running) → Fit r → Grows d e r

  pub grows_as : (c d : Doing (List ℤ)) (e f : Doing C) (r : Running) → ((t : Running) → c t ≡ d t) → ((t : Open C) → e t ≡ f t) → Grows d f r → Grows c e r
  grows_as c d e f r by_list by_source h =
      record { tree = h.tree; good = h.good; same = λ cs. by_list (with_choices r cs) ∙ h.same cs; also = λ x. by_source (with_source r x) ∙ h.also x }

  -- ---- one after the other

  record GrowsOn (d : Doing (List ℤ)) (e : Doing C) (t : Tree) : Type 0 where
    tree : Tree
    same : (cs : List ℤ) → (walk t cs >>= d) ≡ walk tree cs
    also : (c : C) → (walk_by source t c >>= e) ≡ walk_by source tree c
    good : EachEnd Fit tree

  by_option : (b : Bool) (o q : Option Running) (e : Doing (List ℤ)) → (o >>= e) ≡ q → ((if b then o else None) >>= e) ≡ (if b then q else None)
  by_option true o q e h = h
  by_option false o q e h = refl

  asks_on : (d : Doing (List ℤ)) (e : Doing C) (options : List ℤ) (f : ℤ → Tree) → AreAsked options → ((x : ℤ) → GrowsOn d e (f x)) → GrowsOn d e (asks options f)
  asks_on d e options f asked more = record { tree = asks options (λ x. (more x).tree); good = (asked, λ x. (more x).good); same = by_choices; also = λ c. by_given (source options c) } where
    by_choices : (cs : List ℤ) → (walk (asks options f) cs >>= d) ≡ walk (asks options (λ x. (more x).tree)) cs
    by_choices [] = refl
    by_choices (x ∷ cs) = by_option (list_any (int_eq x) options) (walk (f x) cs) (walk (more x).tree cs) d ((more x).same cs)

    by_given : (o : Option (ℤ × C)) → ((o >>= λ x. walk_by source (f x.0) x.1) >>= e) ≡ (o >>= λ x. walk_by source (more x.0).tree x.1)
    by_given None = refl
    by_given (Some x) = (more x.0).also x.1

  grows_on : (d : Doing (List ℤ)) (e : Doing C) → AlwaysGrows d e → (t : Tree) → EachEnd Fit t → GrowsOn d e t
  grows_on d e k (ends r) fit = let g = k r fit in record { tree = g.tree; same = g.same; also = g.also; good = g.good }
  grows_on d e k (asks options f) h = asks_on d e options f h.0 (λ x. grows_on d e k (f x) (h.1 x))

  pub then_grows : (c d : Doing (List ℤ)) (e f : Doing C) (r : Running) → Grows c e r → AlwaysGrows d f → Grows (λ t. c t >>= d) (λ t. e t >>= f) r
  then_grows c d e f r h k =
      let more = grows_on d f k h.tree h.good in
      record {
        tree = more.tree;
        good = more.good;
        same = λ cs. ap (λ (o : Option Running). o >>= d) (h.same cs) ∙ more.same cs;
        also = λ x. ap (λ (o : Option (Open C)). o >>= f) (h.also x) ∙ more.also x;
      }

  pub all_grow : (ds : List Both) → Each (λ d. AlwaysGrows d.0 d.1) ds → AlwaysGrows (do_all (map (λ d. d.0) ds)) (do_all (map (λ d. d.1) ds))
  all_grow [] h r fit = record { tree = ends r; good = fit; same = λ cs. refl; also = λ c. refl }
  all_grow (d ∷ ds) h r fit = then_grows d.0 (do_all (map (λ d. d.0) ds)) d.1 (do_all (map (λ d. d.1) ds)) r (h.0 r fit) (all_grow ds h.1)

  -- ---- branches

  abbrev pub Branches : Type 0
  Branches = Alternative (List ℤ) × Alternative C

  -- its guard says yes or no whatever the choices, and its body grows a tree
  pub record BranchGrows (b : Branches) : Type 0 where
    pub test : Running → Bool
    pub tests : (r : Running) → Fit r → (rest : List ℤ) → b.0.0 (with_choices r rest) ≡ Some (test r)
    pub also : (r : Running) → Fit r → (c : C) → b.1.0 (with_source r c) ≡ Some (test r)
    pub body : AlwaysGrows b.0.1 b.1.1

  abbrev listed_ : List Branches → List (Alternative (List ℤ))
  listed_ bs = map (λ b. b.0) bs

  abbrev sourced_ : List Branches → List (Alternative C)
  sourced_ bs = map (λ b. b.1) bs

  -- the branches that are open, whatever the choices
  record Ready (bs : List Branches) (i : ℕ) (r : Running) : Type 0 where
    ready : List ℕ
    found : (rest : List ℤ) → open_from i (listed_ bs) (with_choices r rest) ≡ Some ready
    also : (c : C) → open_from i (sourced_ bs) (with_source r c) ≡ Some ready
    within : Each (λ k. (i ≤ k) × (k < i + length bs)) ready
    rising : AreRising (map pos ready)

  wider : (i n : ℕ) (ks : List ℕ) → Each (λ k. (i + 1 ≤ k) × (k < i + 1 + n)) ks → Each (λ k. (i ≤ k) × (k < i + suc n)) ks
  wider i n ks h = each_weaker (λ k. (i + 1 ≤ k) × (k < i + 1 + n)) (λ k. (i ≤ k) × (k < i + suc n)) ks (λ k b. (omega (arith, b.0), omega (arith, b.1))) h

  greater : (i n : ℕ) (ks : List ℕ) → Each (λ k. (i + 1 ≤ k) × (k < i + 1 + n)) ks → Each (λ y. pos i <ℤ y) (map pos ks)
  greater i n [] h = tt
  greater i n (k ∷ ks) h = (let up = h.0.0 in omega (arith, ints), greater i n ks h.1)

  more_ready : (b : Bool) (bs : List Branches) (x : Branches) (i : ℕ) (r : Running) → ((rest : List ℤ) → x.0.0 (with_choices r rest) ≡ Some b) → ((c : C) → x.1.0 (with_source r c) ≡ Some b)
      → Ready bs (i + 1) r → Ready (x ∷ bs) i r
  more_ready true bs x i r e f later = record {
    ready = i ∷ later.ready;
    found = λ rest. let here = e rest in let more = later.found rest in rw (here, more) refl;
    also = λ c. let here = f c in let more = later.also c in rw (here, more) refl;
    within = ((omega arith, omega arith), wider i (length bs) later.ready later.within);
    rising = (greater i (length bs) later.ready later.within, later.rising);
  }
  more_ready false bs x i r e f later = record {
    ready = later.ready;
    found = λ rest. let here = e rest in let more = later.found rest in rw (here, more) refl;
    also = λ c. let here = f c in let more = later.also c in rw (here, more) refl;
    within = wider i (length bs) later.ready later.within;
    rising = later.rising;
  }

  ready_in : (bs : List Branches) → Each BranchGrows bs → (i : ℕ) (r : Running) → Fit r → Ready bs i r
  ready_in [] h i r fit = record { ready = []; found = λ rest. refl; also = λ c. refl; within = tt; rising = tt }
  ready_in (b ∷ bs) h i r fit = more_ready (h.0.test r) bs b i r (h.0.tests r fit) (h.0.also r fit) (ready_in bs h.1 (i + 1) r fit)

  -- ---- rounds

  abbrev next : {D : Type 0} → Source D → ℕ → List (Alternative D) → Bool × Open D → Option (Open D)
  next from n bs done = if done.0 then rounds from n bs done.1 else Some done.1

  rounds_open : {D : Type 0} (from : Source D) (n : ℕ) (cs : List (Alternative D)) (t : Open D) (ready : List ℕ) → open_from 0 cs t ≡ Some ready → rounds from (suc n) cs t ≡ (round from cs ready t >>= next from n cs)
  rounds_open from n cs t ready e = rw e refl

  one_next : {D : Type 0} (from : Source D) (n : ℕ) (cs : List (Alternative D)) (k : ℕ) (b : Alternative D) (t : Open D) → slice_get cs k ≡ Some b → (one_runs cs k t >>= next from n cs) ≡ (b.1 t >>= rounds from n cs)
  one_next {D = D} from n cs k b t e = ap (λ (o : Option (Alternative D)). (o >>= λ b. b.1 t >>= λ after. let done : Bool × Open D = (true, after) in Some done) >>= next from n cs) e ∙ by_body (b.1 t) where
    by_body : (o : Option (Open D)) → ((o >>= λ after. let done : Bool × Open D = (true, after) in Some done) >>= next from n cs) ≡ (o >>= rounds from n cs)
    by_body None = refl
    by_body (Some after) = refl

  branch_at : (P : Branches → Type 0) (bs : List Branches) → Each P bs → (k : ℕ) → k < length bs → (b : Branches) × (slice_get (listed_ bs) k ≡ Some b.0) × (slice_get (sourced_ bs) k ≡ Some b.1) × P b
  branch_at P [] h k l = absurd (omega (arith, l))
  branch_at P (b ∷ bs) h zero l = (b, refl, refl, h.0)
  branch_at P (b ∷ bs) h (suc k) l = branch_at P bs h.1 k (omega (arith, l))

  module _ (bs : List Branches) (h : Each BranchGrows bs) (n : ℕ) (later : AlwaysGrows (rounds listed.takes n (listed_ bs)) (rounds source n (sourced_ bs))) where
    -- the branch numbered k, and the rounds after it
    abbrev branch_first : ℕ → Doing (List ℤ)
    branch_first k t = one_runs (listed_ bs) k t >>= next listed.takes n (listed_ bs)

    abbrev branch_first_by : ℕ → Doing C
    branch_first_by k t = one_runs (sourced_ bs) k t >>= next source n (sourced_ bs)

    one_grows : (k : ℕ) → k < length bs → AlwaysGrows (branch_first k) (branch_first_by k)
    one_grows k l r fit =
        let b = branch_at BranchGrows bs h k l in
        grows_as (branch_first k) (λ t. b.0.0.1 t >>= rounds listed.takes n (listed_ bs)) (branch_first_by k) (λ t. b.0.1.1 t >>= rounds source n (sourced_ bs)) r
        (λ t. one_next listed.takes n (listed_ bs) k b.0.0 t b.1) (λ t. one_next source n (sourced_ bs) k b.0.1 t b.2)
        (then_grows b.0.0.1 (rounds listed.takes n (listed_ bs)) b.0.1.1 (rounds source n (sourced_ bs)) r (b.3.body r fit) later)

    -- what follows a choice: its branch, where there is one
    record Follows (x : ℤ) (r : Running) : Type 0 where
      tree : Tree
      same : unsigned_abs x < length bs → (rest : List ℤ) → branch_first (unsigned_abs x) (with_choices r rest) ≡ walk tree rest
      also : unsigned_abs x < length bs → (c : C) → branch_first_by (unsigned_abs x) (with_source r c) ≡ walk_by source tree c
      good : EachEnd Fit tree

    follows : (r : Running) → Fit r → (x : ℤ) → Follows x r
    follows r fit x = by_test (nat_lt (unsigned_abs x) (length bs)) refl where
      by_test : (b : Bool) → nat_lt (unsigned_abs x) (length bs) ≡ b → Follows x r
      by_test true e = let l : unsigned_abs x < length bs = grind arith in let g = one_grows (unsigned_abs x) l r fit in record { tree = g.tree; same = λ l rest. g.same rest; also = λ l c. g.also c; good = g.good }
      by_test false e = record { tree = ends r; same = λ l. absurd (grind arith); also = λ l. absurd (grind arith); good = fit }

    among_numbers : (x : ℤ) (ks : List ℕ) → Each (λ k. k < length bs) ks → list_any (int_eq x) (map pos ks) ≡ true → unsigned_abs x < length bs
    among_numbers x [] w e = absurd cc
    among_numbers x (k ∷ ks) w e = by_test (int_eq x (pos k)) refl e (among_numbers x ks w.1) where
      by_test : (b : Bool) → int_eq x (pos k) ≡ b → (b || list_any (int_eq x) (map pos ks)) ≡ true → (list_any (int_eq x) (map pos ks) ≡ true → unsigned_abs x < length bs) → unsigned_abs x < length bs
      by_test true q i more = let is : x ≡ pos k = (Decides-int_eq x (pos k)).0 q in subst (λ (z : ℤ). unsigned_abs z < length bs) (sym is) w.0
      by_test false q i more = more i

    abbrev many : {D : Type 0} → Source D → List (Alternative D) → List ℕ → Doing D
    many from cs ready t = (from (map pos ready) t.choices >>= λ c. one_runs cs (unsigned_abs c.0) (record t { choices = c.1 })) >>= next from n cs

    many_grow : (ready : List ℕ) → Each (λ k. k < length bs) ready → AreAsked (map pos ready) → (r : Running) → Fit r → Grows (many listed.takes (listed_ bs) ready) (many source (sourced_ bs) ready) r
    many_grow ready w asked r fit = record {
      tree = asks (map pos ready) (λ x. (follows r fit x).tree);
      good = (asked, λ x. (follows r fit x).good);
      same = by_choices;
      also = λ c. by_given c (source (map pos ready) c) refl;
    } where
      by_test : (x : ℤ) (rest : List ℤ) (b : Bool) → list_any (int_eq x) (map pos ready) ≡ b
          → ((let c : ℤ × List ℤ = (x, rest) in provided b c >>= λ c. one_runs (listed_ bs) (unsigned_abs c.0) (with_choices r c.1)) >>= next listed.takes n (listed_ bs)) ≡ (if b then walk (follows r fit x).tree rest else None)
      by_test x rest true e = (follows r fit x).same (among_numbers x ready w e) rest
      by_test x rest false e = refl

      by_choices : (xs : List ℤ) → many listed.takes (listed_ bs) ready (with_choices r xs) ≡ walk (asks (map pos ready) (λ x. (follows r fit x).tree)) xs
      by_choices [] = refl
      by_choices (x ∷ rest) = by_test x rest (list_any (int_eq x) (map pos ready)) refl

      by_given : (c : C) (o : Option (ℤ × C)) → source (map pos ready) c ≡ o
          → ((o >>= λ x. one_runs (sourced_ bs) (unsigned_abs x.0) (with_source r x.1)) >>= next source n (sourced_ bs)) ≡ (o >>= λ x. walk_by source (follows r fit x.0).tree x.1)
      by_given c None e = refl
      by_given c (Some x) e = (follows r fit x.0).also (among_numbers x.0 ready w (gives (map pos ready) c x.0 x.1 e)) x.1

    round_grows : (ready : List ℕ) → Each (λ k. k < length bs) ready → AreRising (map pos ready) → (r : Running) → Fit r
        → Grows (λ t. round listed.takes (listed_ bs) ready t >>= next listed.takes n (listed_ bs)) (λ t. round source (sourced_ bs) ready t >>= next source n (sourced_ bs)) r
    round_grows [] w up r fit = record { tree = ends r; good = fit; same = λ xs. refl; also = λ c. refl }
    round_grows (k ∷ []) w up r fit = let g = one_grows k w.0 r fit in record { tree = g.tree; same = g.same; also = g.also; good = g.good }
    round_grows (k ∷ l ∷ more) w up r fit = let g = many_grow (k ∷ l ∷ more) w (up, omega arith) r fit in record { tree = g.tree; same = g.same; also = g.also; good = g.good }

    more_rounds : AlwaysGrows (rounds listed.takes (suc n) (listed_ bs)) (rounds source (suc n) (sourced_ bs))
    more_rounds r fit =
        let open_ = ready_in bs h 0 r fit in
        let below : Each (λ k. k < length bs) open_.ready = each_weaker (λ k. (0 ≤ k) × (k < 0 + length bs)) (λ k. k < length bs) open_.ready (λ k b. omega (arith, b.1)) open_.within in
        let g = round_grows open_.ready below open_.rising r fit in
        record {
          tree = g.tree;
          good = g.good;
          same = λ xs. rounds_open listed.takes n (listed_ bs) (with_choices r xs) open_.ready (open_.found xs) ∙ g.same xs;
          also = λ c. rounds_open source n (sourced_ bs) (with_source r c) open_.ready (open_.also c) ∙ g.also c;
        }

  pub rounds_grow : (bs : List Branches) → Each BranchGrows bs → (n : ℕ) → AlwaysGrows (rounds listed.takes n (map (λ b. b.0) bs)) (rounds source n (map (λ b. b.1) bs))
  rounds_grow bs h zero r fit = record { tree = ends r; good = fit; same = λ xs. refl; also = λ c. refl }
  rounds_grow bs h (suc n) r fit = more_rounds bs h n (rounds_grow bs h n) r fit
