-- One place is the first, and a true place that is passed over comes nearer.
use Rattle.std.proofs.Common.{◌≡◌, ◌≢◌, ◌<◌, ◌≤◌, ◌+◌, ◌%◌, ◌⊎◌, inl, inr, ℕ, suc, Bool, true, List, [], ◌∷◌, length, Option, Some, None, Contains, ap, refl, subst, sym, ◌∙◌, arith}
use Rattle.std.proofs.lemmas.Option.{slice_get_within}
use Rattle.guard_scheduler.specs.Cursor.{Cursor}
use Rattle.guard_scheduler.specs.Cyclic.{ComesBefore, IsFirstFrom, place_after}
use Rattle.guard_scheduler.specs.Laws.{AllTrueAt, ComesNearer, IsFair, OneIsFirst, distance}
use Rattle.guard_scheduler.specs.Turnstile.{IsTrue, PicksAll}

-- of two places one comes before the other
either_before : (c a b : ℕ) → a ≢ b → ComesBefore c a b ⊎ ComesBefore c b a
either_before c a b h = grind arith

-- At most one place is the first, whatever is looked for.
pub one_of_wanted : (Wanted : ℕ → Type 0) (c a b : ℕ) → IsFirstFrom Wanted c a → IsFirstFrom Wanted c b → a ≡ b
one_of_wanted Wanted c a b x y = grind (arith, either_before c a b, x.first b, y.first a, x.wanted, y.wanted)

pub one_first : OneIsFirst
one_first enabled = one_of_wanted (IsTrue enabled)

-- the place after the last one is 0
next_is : (n b : ℕ) → b < n → ((b + 1 < n) × ((b + 1) % n ≡ b + 1)) ⊎ ((b + 1 ≡ n) × ((b + 1) % n ≡ 0))
next_is n b h = grind arith

nearer_by : (n c a b d : ℕ) → a < n → b < n → c ≤ n → ComesBefore c b a → ((b + 1 < n) × (d ≡ b + 1)) ⊎ ((b + 1 ≡ n) × (d ≡ 0)) → distance n d a < distance n c a
nearer_by n c a b d h k l m e = grind arith

pub nearer : ComesNearer
nearer enabled c a b l h x ne =
    let here = slice_get_within enabled a true h in
    let there = slice_get_within enabled b true x.wanted in
    let before : ComesBefore c b a = grind (arith, either_before c a b, x.first a, h) in
    nearer_by (length enabled) c a b (place_after (length enabled) b) here there l before (next_is (length enabled) b there)

-- ---- many picks

next_within : (n b : ℕ) → b < n → (b + 1) % n ≤ n
next_within n b h = grind arith

in_front : {A : Type 0} (x y : A) (xs : List A) → x ≡ y → Contains (x ∷ xs) y
in_front x y xs e = (0, omega arith, e)

behind : {A : Type 0} (x y : A) (xs : List A) → Contains xs y → Contains (x ∷ xs) y
behind x y xs h = (suc h.0, let l = h.1 in omega (arith, l), h.2)

either : (a b : ℕ) → (b ≡ a) ⊎ (a ≢ b)
either a b = grind arith

fair_by : (n a : ℕ) (old new : Cursor) (lists : List (List Bool)) (picks : List (Option ℕ)) → old.places ≡ n → old.at ≤ n → a < n → distance n old.at a < length lists
    → AllTrueAt n a lists → PicksAll old lists picks new → Contains picks (Some a)
fair_by n a old new [] picks p h l k trues run = absurd (omega (arith, k))
fair_by n a old new (enabled ∷ more) [] p h l k trues run = absurd run
fair_by n a old new (enabled ∷ more) (None ∷ picks) p h l k trues run = absurd (run.1.0 a trues.1)
fair_by n a old new (enabled ∷ more) (Some b ∷ picks) p h l k trues run =
    let many : length enabled ≡ n = trues.0 in
    let first : IsFirstFrom (IsTrue enabled) old.at b = run.1.first in
    let here = slice_get_within enabled b true first.wanted in
    let at : run.0.at ≡ (b + 1) % n = ap (λ (c : Cursor). c.at) run.1.moved ∙ ap (λ m. (b + 1) % m) p in
    let places : run.0.places ≡ n = ap (λ (c : Cursor). c.places) run.1.moved ∙ p in
    elim (either a b) [
      | inl same ↦ in_front (Some b) (Some a) picks (ap Some same)
      | inr other ↦ (
          let nearer_now : distance n ((b + 1) % n) a < distance n old.at a =
          subst (λ m. distance m ((b + 1) % m) a < distance m old.at a) many (nearer enabled old.at a b (subst (λ m. old.at ≤ m) (sym many) h) trues.1 first other) in
          let closer : distance n run.0.at a < length more =
          subst (λ c. distance n c a < length more) (sym at) (omega (arith, nearer_now, k)) in
          behind (Some b) (Some a) picks
          (fair_by n a run.0 new more picks places (subst (λ c. c ≤ n) (sym at) (next_within n b (subst (λ m. b < m) many here))) l closer trues.2 run.2)
          )
    ]

distance_within : (n c a : ℕ) → c ≤ n → a < n → distance n c a < n
distance_within n c a h l = grind arith

pub fair : IsFair
fair a old new lists picks h l k trues run =
    let within = distance_within old.places old.at a h l in
    fair_by old.places a old new lists picks refl h l (omega (arith, within, k)) trues run
