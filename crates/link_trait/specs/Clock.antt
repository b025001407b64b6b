-- A clock in memory, as its callers see it.
use Rattle.std.specs.Prelude.{ℕ, ◌-◌, List, get_or, length}

pub record Readings : Type 0 where
  -- the readings of the list that were not taken yet
  pub left : List ℕ
  -- the last reading of the list, or 0 where it has none
  pub last : ℕ

-- none of these readings was taken yet
abbrev pub all_to_come : List ℕ → Readings
all_to_come readings = record { left = readings; last = get_or readings (length readings - 1) 0 }

-- the reading to come that so many others stand before: one that is left, or else the last one
abbrev pub reading_at : Readings → ℕ → ℕ
reading_at clock k = get_or clock.left k clock.last
