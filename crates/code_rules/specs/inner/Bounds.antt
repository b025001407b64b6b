-- Beginnings before a number, and ends from a number on.
use Rattle.std.specs.Prelude.{ℕ, Bool, true, nat_lt, nat_le, Option, Some, None}

abbrev pub begins_before : Option ℕ → ℕ → Bool
begins_before None i = true
begins_before (Some b) i = nat_lt b i

abbrev pub ends_from : Option ℕ → ℕ → Bool
ends_from None i = true
ends_from (Some e) i = nat_le i e
