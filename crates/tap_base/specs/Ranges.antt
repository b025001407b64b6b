-- Values within their ranges.
use Rattle.std.specs.Prelude.{◌≡◌, ℕ, ◌+◌, ℤ, pos, ◌+ℤ◌, ◌-ℤ◌, Bool, ◌&&◌, if◌then◌else◌, int_le, unsigned_abs, List, map, flat_map, replicate, length}
use Rattle.std.specs.List.{range_with_len}
use Rattle.tap_base.specs.declared.place.Range.{Range}
use Rattle.tap_base.specs.declared.system.Var.{Var}
use Rattle.tap_base.specs.Interval.{IsIn}
use Rattle.tap_base.specs.Lists.{EachBoth}

-- ---- one range

abbrev pub is_within : Range → ℤ → Bool
is_within range x = int_le range.lo x && int_le x range.hi

-- how many values a range has
abbrev pub width_of : Range → ℕ
width_of range = if int_le range.lo range.hi then unsigned_abs (range.hi -ℤ range.lo) + 1 else 0

-- the values of a range in rising order: lo, lo + 1, .., hi
unfoldable pub values_of : Range → List ℤ
values_of range = map (λ k. range.lo +ℤ pos k) (range_with_len 0 (width_of range))

-- ---- many

-- each value is within the range at its place
abbrev pub AreIn : List Range → List ℤ → Type 0
AreIn ranges values = EachBoth (λ range x. IsIn x range) ranges values

-- one value for each range, within it
pub record AreAllIn (ranges : List Range) (values : List ℤ) : Type 0 where
  pub counted : length values ≡ length ranges
  pub within : AreIn ranges values

-- the range of each cell: that of its variable
abbrev pub ranges_of : List Var → List Range
ranges_of vars = flat_map (λ v. replicate v.cells v.range) vars
