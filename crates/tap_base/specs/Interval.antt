-- The interval of an expression: a range that its value lies in, by the ranges of what it reads.
use Rattle.std.specs.Prelude.{ℕ, ◌-◌, ◌^◌, ℤ, pos, negsuc, ◌+ℤ◌, ◌-ℤ◌, ◌*ℤ◌, ◌≤ℤ◌, neg_ℤ, Bool, ◌&&◌, if◌then◌else◌, List, Option, Some, None, option_and_then, slice_get, int_lt, int_le, max, min, unsigned_abs}
use Rattle.std.specs.Int.{int_div_euclid, int_min, int_max}
use Rattle.std.specs.Option.{option_map}
use Rattle.tap_base.specs.declared.place.Range.{Range}
use Rattle.tap_base.specs.declared.wire.WireField.{WireField}
use Rattle.tap_base.specs.declared.tree.Op.{Op}
use Rattle.tap_base.specs.declared.tree.Op.TheVariants.{Add, Sub, Mul, Div, Mod, Min, Max}
use Rattle.tap_base.specs.declared.tree.Expr.{Expr}
use Rattle.tap_base.specs.declared.tree.ExprKind.TheFolds.{fold-Expr}
use Rattle.tap_base.specs.declared.tree.ExprKind.TheOpen.{ExprKind-F}

abbrev pub from_to : ℤ → ℤ → Range
from_to lo hi = record { lo = lo; hi = hi }

-- a number of the signed 64-bit range
abbrev pub fits : ℤ → Bool
fits x = int_le (negsuc (2 ^ 63 - 1)) x && int_lt x (pos (2 ^ 63))

-- the range between two bounds, where both fit
abbrev pub bounded : ℤ → ℤ → Option Range
bounded lo hi = if fits lo && fits hi then Some (from_to lo hi) else None

-- one range lies within another
abbrev pub IsWithin : Range → Range → Type 0
IsWithin a b = (b.lo ≤ℤ a.lo) × (a.hi ≤ℤ b.hi)

-- a number lies within a range
abbrev pub IsIn : ℤ → Range → Type 0
IsIn x a = (a.lo ≤ℤ x) × (x ≤ℤ a.hi)

-- the range of a field: all that its width has room for, or its fixed value alone
abbrev pub field_range : WireField → Range
field_range f = range_by f.fixed where
  range_by : Option ℤ → Range
  range_by None = from_to (pos 0) (pos (2 ^ f.width) -ℤ pos 1)
  range_by (Some v) = from_to v v

-- the places of an array of so many elements, counted from 0
abbrev pub index_range : ℕ → Range
index_range length = from_to (pos 0) (pos length -ℤ pos 1)

-- the delays of a timer, in milliseconds: all that 32 bits can hold
abbrev pub delay_range : Range
delay_range = from_to (pos 0) (pos (2 ^ 32) -ℤ pos 1)

abbrev pub has_zero : Range → Bool
has_zero a = int_le a.lo (pos 0) && int_le (pos 0) a.hi

-- the least and the greatest of four numbers
abbrev pub spanned : ℤ → ℤ → ℤ → ℤ → Option Range
spanned w x y z = bounded (int_min (int_min w x) (int_min y z)) (int_max (int_max w x) (int_max y z))

abbrev pub sum_range : Range → Range → Option Range
sum_range a b = bounded (a.lo +ℤ b.lo) (a.hi +ℤ b.hi)

abbrev pub difference_range : Range → Range → Option Range
difference_range a b = bounded (a.lo -ℤ b.hi) (a.hi -ℤ b.lo)

abbrev pub negation_range : Range → Option Range
negation_range a = bounded (neg_ℤ a.hi) (neg_ℤ a.lo)

abbrev pub product_range : Range → Range → Option Range
product_range a b = spanned (a.lo *ℤ b.lo) (a.lo *ℤ b.hi) (a.hi *ℤ b.lo) (a.hi *ℤ b.hi)

-- none where the divisor may be 0
abbrev pub quotient_range : Range → Range → Option Range
quotient_range a b =
    if has_zero b then None
    else spanned (int_div_euclid a.lo b.lo) (int_div_euclid a.lo b.hi) (int_div_euclid a.hi b.lo) (int_div_euclid a.hi b.hi)

-- the dividend's own range where every divisor is greater, else all remainders
abbrev pub remainder_range : Range → Range → Option Range
remainder_range a b =
    if has_zero b then None
    else (if int_le (pos 0) a.lo && int_lt a.hi (pos (min (unsigned_abs b.lo) (unsigned_abs b.hi)))
    then Some a
    else bounded (pos 0) (pos (max (unsigned_abs b.lo) (unsigned_abs b.hi)) -ℤ pos 1))

abbrev pub min_range : Range → Range → Option Range
min_range a b = bounded (int_min a.lo b.lo) (int_min a.hi b.hi)

abbrev pub max_range : Range → Range → Option Range
max_range a b = bounded (int_max a.lo b.lo) (int_max a.hi b.hi)

-- a truth is 0 or 1
abbrev pub truth_range : Range
truth_range = from_to (pos 0) (pos 1)

-- the interval of an operation; none where a bound leaves 64 bits or a divisor may be 0
abbrev pub operation_range : Op → Range → Range → Option Range
operation_range Add a b = sum_range a b
operation_range Sub a b = difference_range a b
operation_range Mul a b = product_range a b
operation_range Div a b = quotient_range a b
operation_range Mod a b = remainder_range a b
operation_range Min a b = min_range a b
operation_range Max a b = max_range a b
operation_range _ a b = Some truth_range

-- from the ranges of the cells, of the inputs and of the received fields
abbrev pub Interval : Type 0
Interval = List Range → List Range → List Range → Option Range

-- one level of an expression, with the intervals of its parts in their places
abbrev pub interval_step : ExprKind-F Interval Interval → Interval
interval_step (ExprKind-F.Number n) cells inputs fields = bounded n n
interval_step (ExprKind-F.Cell k) cells inputs fields = slice_get cells k
interval_step (ExprKind-F.Element first length index) cells inputs fields = option_and_then (λ i. slice_get cells first) (index cells inputs fields)
interval_step (ExprKind-F.Input k) cells inputs fields = slice_get inputs k
interval_step (ExprKind-F.Part k) cells inputs fields = slice_get fields k
interval_step (ExprKind-F.Not e) cells inputs fields = option_map (λ a. truth_range) (e cells inputs fields)
interval_step (ExprKind-F.Neg e) cells inputs fields = option_and_then negation_range (e cells inputs fields)
interval_step (ExprKind-F.Binary op left right) cells inputs fields =
    option_and_then (λ a. option_and_then (λ b. operation_range op a b) (right cells inputs fields)) (left cells inputs fields)

-- the interval of an expression, or none where it has none
abbrev pub interval_of : Expr → Interval
interval_of = fold-Expr Interval Interval interval_step (λ e. e.kind)
