-- What a pick answers, and where the cursor stands after it.
use Rattle.std.specs.Prelude.{ℕ, ◌≡◌, Bool, true, List, [], ◌∷◌, Option, Some, None, slice_get}
use Rattle.guard_scheduler.specs.Cursor.{Cursor}
use Rattle.guard_scheduler.specs.Cyclic.{IsFirstFrom, place_after}

-- The place a is the first in cyclic order from the cursor of those that are looked for. Then the cursor stands at the
-- place after it.
pub record TakesNext (Wanted : ℕ → Type 0) (old : Cursor) (a : ℕ) (new : Cursor) : Type 0 where
  pub first : IsFirstFrom Wanted old.at a
  pub moved : new ≡ record old { at = place_after old.places a }

-- the place a is true
abbrev pub IsTrue : List Bool → ℕ → Type 0
IsTrue enabled a = slice_get enabled a ≡ Some true

-- The next true place is picked. Where none is true, the cursor stays.
abbrev pub Picks : Cursor → List Bool → Option ℕ → Cursor → Type 0
Picks old enabled (Some a) new = TakesNext (IsTrue enabled) old a new
Picks old enabled None new = ((a : ℕ) → ¬ IsTrue enabled a) × (new ≡ old)

-- one pick after another
abbrev pub PicksAll : Cursor → List (List Bool) → List (Option ℕ) → Cursor → Type 0
PicksAll old [] picks new = (picks ≡ []) × (new ≡ old)
PicksAll old (enabled ∷ more) [] new = ⊥
PicksAll old (enabled ∷ more) (pick ∷ picks) new = (middle : Cursor) × Picks old enabled pick middle × PicksAll middle more picks new
