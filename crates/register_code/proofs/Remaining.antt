-- How much can still run: a number that falls with each step of nested loops.
use Rattle.std.proofs.Common.{◌≡◌, ◌+◌, ◌-◌, ◌*◌, ◌<◌, ◌≤◌, ℕ, zero, suc, Bool, true, false, ◌&&◌, if◌then◌else◌, ◌⊎◌, inl, inr, refl, ap, sym, ◌∙◌, arith}
use Rattle.std.specs.Prelude.{nat_le, nat_lt}
use Rattle.std.proofs.lemmas.Bool.{cases_lt, and_parts, and_from, and_right, true≢false, ltb-true, leb-true, lt-ltb, le-ltb, le-leb, lt-leb}
use Rattle.std.proofs.lemmas.Nat.{mul-le}
use Rattle.std.proofs.Math.Nat.{le_refl}
use Rattle.register_code.specs.Sums.{sum_below, product_below}
use Rattle.register_code.proofs.Sums.{sum_le, sum_but, product_le, product_pos, product_but}

-- ---- the loops

-- Numbers below n of which some begin a loop: the last number that each holds, and how often it runs. One that begins
-- no loop holds nothing.
pub record Nest : Type 0 where
  pub size : ℕ
  pub last : ℕ → ℕ
  pub count : ℕ → ℕ

-- the loop that begins at b holds i
abbrev pub within : Nest → ℕ → ℕ → Bool
within L b i = nat_lt b i && nat_le i (L.last b)

-- the count of the loop at b where it begins at p or behind and holds i
abbrev pub factor : Nest → ℕ → ℕ → ℕ → ℕ
factor L p i b = if nat_le p b && within L b i then L.count b else 1

-- how often i runs in one pass from p on
unfoldable pub passes : Nest → ℕ → ℕ → ℕ
passes L p i = product_below L.size (factor L p i)

-- what the loop at b, where it holds p, still adds for i
abbrev pub again : Nest → (ℕ → ℕ) → ℕ → ℕ → ℕ → ℕ
again L k p i b = if within L b p && within L b i then (k b - 1) * passes L (b + 1) i else 0

-- how often i can still run from p on, with k b turns left of the loop at b
pub still : Nest → (ℕ → ℕ) → ℕ → ℕ → ℕ
still L k p i = (if nat_le p i then passes L p i else 0) + sum_below L.size (again L k p i)

-- the sum of these, each times what i counts
pub remaining : Nest → (ℕ → ℕ) → (ℕ → ℕ) → ℕ → ℕ
remaining L g k p = sum_below L.size (λ i. g i * still L k p i)

pub record IsNest (L : Nest) : Type 0 where
  pub counted : (b : ℕ) → 1 ≤ L.count b
  -- of two loops of which the second begins in the first, the second ends in it
  pub nested : (b d : ℕ) → b < d → d ≤ L.last b → L.last d ≤ L.last b

-- ---- passes

one_factor : (L : Nest) → IsNest L → (p i b : ℕ) → 1 ≤ factor L p i b
one_factor L h p i b = at (nat_le p b && within L b i) where
  at : (t : Bool) → 1 ≤ (if t then L.count b else 1)
  at true = h.counted b
  at false = omega arith

some_pass : (L : Nest) → IsNest L → (p i : ℕ) → 1 ≤ passes L p i
unfolding passes
some_pass L h p i = product_pos L.size (factor L p i) (λ b l. one_factor L h p i b)

choose_le : (u v : Bool) (x : ℕ) → 1 ≤ x → (u ≡ true → v ≡ true) → (if u then x else 1) ≤ (if v then x else 1)
choose_le true v x one h = let e = h refl in rw e (omega arith)
choose_le false true x one h = one
choose_le false false x one h = omega arith

-- fewer loops make fewer passes
passes_le : (L : Nest) → IsNest L → (p q i j : ℕ) → ((b : ℕ) → q ≤ b → within L b j ≡ true → (p ≤ b) × (within L b i ≡ true)) → passes L q j ≤ passes L p i
unfolding passes
passes_le L h p q i j f =
    product_le L.size (factor L q j) (factor L p i)
    (λ b l. choose_le (nat_le q b && within L b j) (nat_le p b && within L b i) (L.count b) (h.counted b)
    (λ e. let parts = and_parts (nat_le q b) (within L b j) e in
    let both = f b (leb-true q b parts.0) parts.1 in and_from (nat_le p b) (within L b i) (le-leb p b both.0) both.1))

-- ---- one step

-- What p counts is taken off where everything else can run no oftener than before, and p itself once less.
falls : (L : Nest) (g k l : ℕ → ℕ) (p q : ℕ) → p < L.size → ((i : ℕ) → (i ≡ p → ⊥) → still L l q i ≤ still L k p i) → still L l q p + 1 ≤ still L k p p
    → remaining L g l q + g p ≤ remaining L g k p
unfolding remaining
falls L g k l p q here others self =
    let at : g p * still L l q p + g p ≤ g p * still L k p p + 0 = omega (arith, mul-le _ _ _ _ (le_refl (g p)) self) in
    let all = sum_but L.size p (g p) 0 (λ i. g i * still L l q i) (λ i. g i * still L k p i) here (λ i ne. mul-le _ _ _ _ (le_refl (g i)) (others i ne)) at in omega arith

when_le : (u v : Bool) (x y : ℕ) → (u ≡ true → (v ≡ true) × (x ≤ y)) → (if u then x else 0) ≤ (if v then y else 0)
when_le true v x y h = let e = (h refl).0 in let le = (h refl).1 in rw e le
when_le false v x y h = omega arith

again_le : (L : Nest) (k l : ℕ → ℕ) (p q i b : ℕ) → (within L b q ≡ true → (within L b p ≡ true) × (l b ≡ k b)) → again L l q i b ≤ again L k p i b
again_le L k l p q i b h =
    when_le (within L b q && within L b i) (within L b p && within L b i) _ _
    (λ e. let parts = and_parts (within L b q) (within L b i) e in
    let old = h parts.0 in
    let same : (l b - 1) * passes L (b + 1) i ≡ (k b - 1) * passes L (b + 1) i = ap (λ m. (m - 1) * passes L (b + 1) i) old.1 in
    (and_from (within L b p) (within L b i) old.0 parts.1, omega arith))

-- After p comes q, behind p and in no loop that does not hold p.
pub forward : (L : Nest) → IsNest L → (g k l : ℕ → ℕ) (p q : ℕ) → p < L.size → p < q → ((b : ℕ) → within L b q ≡ true → (within L b p ≡ true) × (l b ≡ k b))
    → remaining L g l q + g p ≤ remaining L g k p
unfolding still
forward L h g k l p q here ahead into = falls L g k l p q here others self where
  loops : (i : ℕ) → sum_below L.size (again L l q i) ≤ sum_below L.size (again L k p i)
  loops i = sum_le L.size (again L l q i) (again L k p i) (λ b m. again_le L k l p q i b (into b))

  others : (i : ℕ) → (i ≡ p → ⊥) → still L l q i ≤ still L k p i
  others i ne =
      let first = when_le (nat_le q i) (nat_le p i) (passes L q i) (passes L p i)
      (λ e. (le-leb p i (omega (arith, leb-true q i e)), passes_le L h p q i i (λ b m w. (omega arith, w)))) in
      let rest = loops i in omega arith

  self : still L l q p + 1 ≤ still L k p p
  self =
      let gone : nat_le q p ≡ false = lt-leb q p ahead in
      let there : nat_le p p ≡ true = le-leb p p (omega arith) in
      let one = some_pass L h p p in
      let rest = loops p in rw (gone, there) (omega arith)

-- ---- into a loop

within_parts : (L : Nest) (b i : ℕ) → within L b i ≡ true → (b < i) × (i ≤ L.last b)
within_parts L b i e = let parts = and_parts (nat_lt b i) (nat_le i (L.last b)) e in (ltb-true b i parts.0, leb-true i (L.last b) parts.1)

within_from : (L : Nest) (b i : ℕ) → b < i → i ≤ L.last b → within L b i ≡ true
within_from L b i l m = and_from (nat_lt b i) (nat_le i (L.last b)) (lt-ltb b i l) (le-leb i (L.last b) m)

outside_from : (L : Nest) (b i : ℕ) → i ≤ b → within L b i ≡ false
outside_from L b i l = let e : nat_lt b i ≡ false = le-ltb b i l in rw e refl

one_more : (c x : ℕ) → 1 ≤ c → x + (c - 1) * x ≡ c * x
one_more zero x h = absurd (omega arith)
one_more (suc c) x h = let e : suc c - 1 ≡ c = omega arith in rw e (omega arith)

one_less : (k l x : ℕ) → 1 < k → l ≡ k - 1 → (l - 1) * x + x ≤ (k - 1) * x
one_less zero l x h e = absurd (omega arith)
one_less (suc zero) l x h e = absurd (omega arith)
one_less (suc (suc k)) l x h e =
    let less : l - 1 ≡ k = omega arith in
    let more : suc (suc k) - 1 ≡ suc k = omega arith in rw (less, more) (omega arith)

out_behind : (L : Nest) (b i e : ℕ) → L.last b ≡ e → within L b i ≡ false → b < i → e < i
out_behind L b i e ends out ahead = by_order (cases_lt e i) where
  by_order : (e < i) ⊎ (i ≤ e) → e < i
  by_order (inl late) = late
  by_order (inr early) = absurd (true≢false (sym (within_from L b i ahead (omega arith)) ∙ out))

-- A pass from the beginning of a loop runs what it holds as often as all its turns.
all_turns : (L : Nest) → IsNest L → (p i : ℕ) → p < L.size → within L p i ≡ true → L.count p * passes L (p + 1) i ≤ passes L p i
unfolding passes
all_turns L h p i here in_loop = product_but L.size p (L.count p) (factor L (p + 1) i) (factor L p i) here others self where
  others : (b : ℕ) → (b ≡ p → ⊥) → factor L (p + 1) i b ≤ factor L p i b
  others b ne =
      choose_le (nat_le (p + 1) b && within L b i) (nat_le p b && within L b i) (L.count b) (h.counted b)
      (λ e. let parts = and_parts (nat_le (p + 1) b) (within L b i) e in and_from (nat_le p b) (within L b i) (le-leb p b (omega (arith, leb-true (p + 1) b parts.0))) parts.1)

  self : L.count p * factor L (p + 1) i p ≤ factor L p i p
  self =
      let before : nat_le (p + 1) p ≡ false = lt-leb (p + 1) p (omega arith) in
      let there : nat_le p p ≡ true = le-leb p p (omega arith) in rw (before, there, in_loop) (omega arith)

-- what the turns of the loop at p but the first add for i
abbrev added : Nest → ℕ → ℕ → ℕ
added L p i = if within L p i then (L.count p - 1) * passes L (p + 1) i else 0

pub enter : (L : Nest) → IsNest L → (g k l : ℕ → ℕ) (p : ℕ) → p < L.size → p < L.last p → l p ≤ L.count p
    → ((b : ℕ) → (b ≡ p → ⊥) → l b ≡ k b) → ((b : ℕ) → (b ≡ p → ⊥) → within L b (p + 1) ≡ true → within L b p ≡ true)
    → remaining L g l (p + 1) + g p ≤ remaining L g k p
unfolding still
enter L h g k l p here begins set kept into = falls L g k l p (p + 1) here others self where
  loops : (i : ℕ) → sum_below L.size (again L l (p + 1) i) + 0 ≤ sum_below L.size (again L k p i) + added L p i
  loops i =
      sum_but L.size p 0 (added L p i) (again L l (p + 1) i) (again L k p i) here
      (λ b ne. again_le L k l p (p + 1) i b (λ e. (into b ne e, kept b ne)))
      (let first = when_le (within L p (p + 1) && within L p i) (within L p i) ((l p - 1) * passes L (p + 1) i) ((L.count p - 1) * passes L (p + 1) i)
      (λ e. let parts = and_parts (within L p (p + 1)) (within L p i) e in
      (parts.1, mul-le _ _ _ _ (omega arith) (le_refl (passes L (p + 1) i)))) in omega arith)

  others : (i : ℕ) → (i ≡ p → ⊥) → still L l (p + 1) i ≤ still L k p i
  others i ne = by_loop (within L p i) refl where
    rest : sum_below L.size (again L l (p + 1) i) + 0 ≤ sum_below L.size (again L k p i) + added L p i
    rest = loops i

    one : 1 ≤ L.count p
    one = h.counted p

    by_loop : (t : Bool) → within L p i ≡ t → still L l (p + 1) i ≤ still L k p i
    by_loop true e =
        let parts = within_parts L p i e in
        let there : nat_le p i ≡ true = le-leb p i (omega arith) in
        let behind : nat_le (p + 1) i ≡ true = le-leb (p + 1) i (omega arith) in
        let turns = all_turns L h p i here e in
        let split : passes L (p + 1) i + (L.count p - 1) * passes L (p + 1) i ≡ L.count p * passes L (p + 1) i = one_more (L.count p) (passes L (p + 1) i) one in
        let all = rw e at rest in
        rw (there, behind) (omega (arith, all, turns, split))
    by_loop false e =
        let first = when_le (nat_le (p + 1) i) (nat_le p i) (passes L (p + 1) i) (passes L p i)
        (λ m. (le-leb p i (omega (arith, leb-true (p + 1) i m)), passes_le L h p (p + 1) i i (λ b n w. (omega arith, w)))) in
        let all = rw e at rest in omega (arith, first, all)

  self : still L l (p + 1) p + 1 ≤ still L k p p
  self =
      let gone : nat_le (p + 1) p ≡ false = lt-leb (p + 1) p (omega arith) in
      let there : nat_le p p ≡ true = le-leb p p (omega arith) in
      let one = some_pass L h p p in
      let out = outside_from L p p (omega arith) in
      let rest = rw out at (loops p) in rw (gone, there) (omega (arith, one, rest))

-- ---- back to the beginning of a loop

-- what one turn of the loop at b adds for i
abbrev turn : Nest → ℕ → ℕ → ℕ
turn L b i = if within L b i then passes L (b + 1) i else 0

pub back : (L : Nest) → IsNest L → (g k l : ℕ → ℕ) (b e : ℕ) → e < L.size → b < e → L.last b ≡ e → 1 < k b → l b ≡ k b - 1
    → ((d : ℕ) → (d ≡ b → ⊥) → l d ≡ k d) → remaining L g l (b + 1) + g e ≤ remaining L g k e
unfolding still
back L h g k l b e here ahead ends more set kept = falls L g k l e (b + 1) here others self where
  into : (d : ℕ) → (d ≡ b → ⊥) → within L d (b + 1) ≡ true → within L d e ≡ true
  into d ne w =
      let parts = within_parts L d (b + 1) w in
      let before : d < b = omega arith in
      let inner = h.nested d b before (omega arith) in
      within_from L d e (omega arith) (omega arith)

  loops : (i : ℕ) → sum_below L.size (again L l (b + 1) i) + turn L b i ≤ sum_below L.size (again L k e i) + 0
  loops i =
      sum_but L.size b (turn L b i) 0 (again L l (b + 1) i) (again L k e i) (omega arith)
      (λ d ne. again_le L k l e (b + 1) i d (λ w. (into d ne w, kept d ne))) (at (within L b i) refl) where
        at : (t : Bool) → within L b i ≡ t → again L l (b + 1) i b + turn L b i ≤ again L k e i b + 0
        at true w =
            let first = within_from L b (b + 1) (omega arith) (omega arith) in
            let end = within_from L b e ahead (omega arith) in
            let fewer : (l b - 1) * passes L (b + 1) i + passes L (b + 1) i ≤ (k b - 1) * passes L (b + 1) i = one_less (k b) (l b) (passes L (b + 1) i) more set in
            rw (w, first, end) (omega (arith, fewer))
        at false w =
            let none : (within L b (b + 1) && within L b i) ≡ false = and_right (within L b (b + 1)) (within L b i) w in
            rw (none, w) (omega arith)

  others : (i : ℕ) → (i ≡ e → ⊥) → still L l (b + 1) i ≤ still L k e i
  others i ne = by_loop (within L b i) refl where
    rest : sum_below L.size (again L l (b + 1) i) + turn L b i ≤ sum_below L.size (again L k e i) + 0
    rest = loops i

    from_end : (d : ℕ) → b + 1 ≤ d → within L d i ≡ true → e < i → e ≤ d
    from_end d n v after = by_order (cases_lt d e) where
      by_order : (d < e) ⊎ (e ≤ d) → e ≤ d
      by_order (inl early) =
          let parts = within_parts L d i v in
          let inner = h.nested b d (omega arith) (omega arith) in absurd (omega arith)
      by_order (inr late) = late

    by_loop : (t : Bool) → within L b i ≡ t → still L l (b + 1) i ≤ still L k e i
    by_loop true w =
        let parts = within_parts L b i w in
        let behind : nat_le (b + 1) i ≡ true = le-leb (b + 1) i (omega arith) in
        let all = rw w at rest in rw behind (omega (arith, all))
    by_loop false w =
        let first = when_le (nat_le (b + 1) i) (nat_le e i) (passes L (b + 1) i) (passes L e i)
        (λ m. let after : e < i = out_behind L b i e ends w (omega (arith, leb-true (b + 1) i m)) in
        (le-leb e i (omega arith), passes_le L h e (b + 1) i i (λ d n v. (from_end d n v after, v)))) in
        let all = rw w at rest in omega (arith, first, all)

  self : still L l (b + 1) e + 1 ≤ still L k e e
  self =
      let behind : nat_le (b + 1) e ≡ true = le-leb (b + 1) e (omega arith) in
      let there : nat_le e e ≡ true = le-leb e e (omega arith) in
      let one = some_pass L h e e in
      let inside = within_from L b e ahead (omega arith) in
      let rest = rw inside at (loops e) in rw (behind, there) (omega (arith, one, rest))

-- ---- the beginning

zeros : (n : ℕ) → sum_below n (λ b. 0) ≡ 0
zeros zero = refl
zeros (suc n) = omega (arith, zeros n)

-- At the beginning no loop has begun.
pub at_first : (L : Nest) (g k w : ℕ → ℕ) → ((i : ℕ) → passes L 0 i ≤ w i) → remaining L g k 0 ≤ sum_below L.size (λ i. g i * w i)
unfolding remaining still
at_first L g k w h = sum_le L.size (λ i. g i * still L k 0 i) (λ i. g i * w i) (λ i l. mul-le _ _ _ _ (le_refl (g i)) (at i)) where
  none : (i b : ℕ) → again L k 0 i b ≤ 0
  none i b = let out : within L b 0 ≡ false = outside_from L b 0 (omega arith) in rw out (omega arith)

  at : (i : ℕ) → (if nat_le 0 i then passes L 0 i else 0) + sum_below L.size (again L k 0 i) ≤ w i
  at i =
      let loops = sum_le L.size (again L k 0 i) (λ b. 0) (λ b l. none i b) in
      let there : nat_le 0 i ≡ true = le-leb 0 i (omega arith) in
      let most = h i in rw there (omega (arith, loops, zeros L.size, most))
