-- Which numbers a field can hold.
use Rattle.std.specs.Prelude.{ℕ, ℤ, pos, Bool, true, Option, Some, None}
use Rattle.std.specs.Ordering.{int_eq}

-- all that there is room for, or its fixed value
abbrev pub is_held : Option ℤ → ℕ → Bool
is_held None n = true
is_held (Some v) n = int_eq (pos n) v
