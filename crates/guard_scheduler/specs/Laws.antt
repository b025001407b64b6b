-- What follows for those that rest on picks: a pick is determined, and no true place waits for ever.
use Rattle.std.specs.Prelude.{ℕ, ◌+◌, ◌-◌, ◌<◌, ◌≤◌, ◌≡◌, ◌≢◌, Bool, List, [], ◌∷◌, Contains, Option, length, nat_le, Some, if◌then◌else◌}
use Rattle.guard_scheduler.specs.Cursor.{Cursor}
use Rattle.guard_scheduler.specs.Cyclic.{IsFirstFrom, place_after}
use Rattle.guard_scheduler.specs.Turnstile.{IsTrue, PicksAll}

-- At most one place is the first true one.
abbrev pub OneIsFirst : Type 0
OneIsFirst = (enabled : List Bool) (c a b : ℕ) → IsFirstFrom (IsTrue enabled) c a → IsFirstFrom (IsTrue enabled) c b → a ≡ b

-- how many places stand before a, of n places from c on
abbrev pub distance : ℕ → ℕ → ℕ → ℕ
distance n c a = if nat_le c a then a - c else a + n - c

-- A true place that is passed over stands nearer to the cursor afterwards.
abbrev pub ComesNearer : Type 0
ComesNearer = (enabled : List Bool) (c a b : ℕ) → c ≤ length enabled → IsTrue enabled a → IsFirstFrom (IsTrue enabled) c b → a ≢ b
    → distance (length enabled) (place_after (length enabled) b) a < distance (length enabled) c a

-- Each list has so many places, and is true at the place a.
abbrev pub AllTrueAt : ℕ → ℕ → List (List Bool) → Type 0
AllTrueAt n a [] = Unit {0}
AllTrueAt n a (enabled ∷ more) = (length enabled ≡ n) × IsTrue enabled a × AllTrueAt n a more

-- Of as many picks in a row as there are places, a place that is true each time is picked in one.
abbrev pub IsFair : Type 0
IsFair = (a : ℕ) (old new : Cursor) (lists : List (List Bool)) (picks : List (Option ℕ)) → old.at ≤ old.places → a < old.places → old.places ≤ length lists
    → AllTrueAt old.places a lists → PicksAll old lists picks new → Contains picks (Some a)
