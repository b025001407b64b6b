-- Cyclic order: going round the places of a list, from one of them.
use Rattle.std.specs.Prelude.{ℕ, ◌+◌, ◌%◌, ◌<◌, ◌≤◌, ◌⊎◌}

-- Going round from the place c, one comes by a before b.
abbrev pub ComesBefore : ℕ → ℕ → ℕ → Type 0
ComesBefore c a b = ((c ≤ a) × (a < b)) ⊎ ((a < b) × (b < c)) ⊎ ((b < c) × (c ≤ a))

-- The place a is one of those that are looked for, and none of them comes before it, going round from the place c.
pub record IsFirstFrom (Wanted : ℕ → Type 0) (c a : ℕ) : Type 0 where
  pub wanted : Wanted a
  pub first : (b : ℕ) → ComesBefore c b a → ¬ Wanted b

-- the place after a, of n places; 0 after the last one
abbrev pub place_after : ℕ → ℕ → ℕ
place_after n a = (a + 1) % n
