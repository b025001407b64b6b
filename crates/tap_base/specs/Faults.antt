-- What faults do to what is in flight: changes of a list, whatever its elements are; none where a place is not there.
use Rattle.std.specs.Prelude.{ℕ, ◌+◌, nat_lt, List, length, slice_get, slice_set, insert, Option}
use Rattle.std.specs.List.{remove}
use Rattle.std.specs.Option.{option_map}
use Rattle.tap_base.specs.Option.{◌>>=◌, provided}

-- the one at i goes
abbrev pub lost_at : {A : Type 0} → ℕ → List A → Option (List A)
lost_at i xs = provided (nat_lt i (length xs)) (remove xs i)

-- a copy of the one at i comes directly behind it
abbrev pub copied_at : {A : Type 0} → ℕ → List A → Option (List A)
copied_at i xs = option_map (λ x. insert xs (i + 1) x) (slice_get xs i)

-- the one at i is taken out, and put in so that it is at j
abbrev pub moved_to : {A : Type 0} → ℕ → ℕ → List A → Option (List A)
moved_to i j xs = provided (nat_lt j (length xs)) xs >>= λ ys. option_map (λ x. insert (remove ys i) j x) (slice_get ys i)

-- the one at i is another
abbrev pub changed_to : {A : Type 0} → ℕ → A → List A → Option (List A)
changed_to i x xs = provided (nat_lt i (length xs)) (slice_set xs i x)
