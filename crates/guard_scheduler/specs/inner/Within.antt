-- One part of the way round.
use Rattle.std.specs.Prelude.{ℕ, ◌<◌, ◌≤◌, Bool, List, Option, Some, None}
use Rattle.guard_scheduler.specs.Turnstile.{IsTrue}

-- the first true place from `from` on, before `to`
abbrev pub FindsWithin : List Bool → ℕ → ℕ → Option ℕ → Type 0
FindsWithin enabled from to (Some a) = (from ≤ a) × (a < to) × IsTrue enabled a × ((b : ℕ) → from ≤ b → b < a → ¬ IsTrue enabled b)
FindsWithin enabled from to None = (b : ℕ) → from ≤ b → b < to → ¬ IsTrue enabled b
