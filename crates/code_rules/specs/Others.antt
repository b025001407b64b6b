-- How many registers may hold something else than 0 and 1.
use Rattle.std.specs.Prelude.{◌≡◌, ℕ, ◌+◌, Bool, not, count_by, List, length, slice_get, Some, take}
use Rattle.tap_base.specs.declared.place.Range.{Range}
use Rattle.tap_base.specs.Interval.{truth_range}
use Rattle.register_code.specs.Sites.{lies_in}

abbrev pub is_other : Range → Bool
is_other range = not (lies_in range truth_range)

-- of each number of registers, how many of the first so many
pub record AreOthers (ranges : List Range) (others : List ℕ) : Type 0 where
  pub counted : length others ≡ length ranges + 1
  pub each : (i k : ℕ) → slice_get others i ≡ Some k → k ≡ count_by is_other (take i ranges)
