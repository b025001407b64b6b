-- The interval of a remainder whose divisor is never 0.
use Rattle.std.specs.Prelude.{pos, ◌-ℤ◌, ◌&&◌, if◌then◌else◌, int_le, int_lt, max, min, unsigned_abs, Option, Some}
use Rattle.tap_base.specs.declared.place.Range.{Range}
use Rattle.tap_base.specs.Interval.{bounded}

-- the dividend's own range where every divisor is greater, else all remainders
abbrev pub remainders : Range → Range → Option Range
remainders a b =
    if int_le (pos 0) a.lo && int_lt a.hi (pos (min (unsigned_abs b.lo) (unsigned_abs b.hi)))
    then Some a
    else bounded (pos 0) (pos (max (unsigned_abs b.lo) (unsigned_abs b.hi)) -ℤ pos 1)
