-- Who receives which message from whom, by numbers.
use Rattle.std.specs.Prelude.{◌≡◌, ℕ, ◌==◌, Bool, false, ◌&&◌, List, Option, Some, None}
use Rattle.std.specs.declared.cmp.Ordering.{Ordering}
use Rattle.std.specs.BTreeSet.{BTreeSet, contains}
use Rattle.std.specs.List.{list_any}
use Rattle.std.specs.Ordering.{nat_cmp, ordering_then}
use Rattle.tap_base.specs.declared.wire.Receive.{Receive}
use Rattle.tap_names.specs.declared.table.Table.{Table}
use Rattle.tap_names.specs.Tables.{entries_of, names_in}
use Rattle.tap_types.specs.declared.receivers.Receivers.{Receivers}
use Rattle.tap_types.specs.Scopes.{number_of}

-- the numbers of a receiver, a sender and a message
abbrev pub Numbers : Type 0
Numbers = ℕ × ℕ × ℕ

-- the order in which a set has them
abbrev pub compared : Numbers → Numbers → Ordering
compared x y = ordering_then (ordering_then (nat_cmp x.0 y.0) (nat_cmp x.1 y.1)) (nat_cmp x.2 y.2)

-- a receive of these numbers
abbrev pub is_of : Numbers → Receive → Bool
is_of q r = q.0 == r.by && (q.2 == r.message && q.1 == r.from)

-- the set has the numbers of these receives, and no others
abbrev pub HoldsEach : List Receive → BTreeSet Numbers → Type 0
HoldsEach receives s = (q : Numbers) → contains compared s q ≡ list_any (is_of q) receives

-- a test of three numbers, where there are three
abbrev pub of_three : (Numbers → Bool) → Option ℕ → Option ℕ → Option ℕ → Bool
of_three f None p m = false
of_three f (Some b) None m = false
of_three f (Some b) (Some p) None = false
of_three f (Some b) (Some p) (Some m) = f (b, p, m)

-- whether the set has the numbers, in these tables of messages and processes, of a sender, a message and a receiver
abbrev pub is_held : Table (Unit {0}) → Table (Unit {0}) → BTreeSet Numbers → List ℕ → List ℕ → List ℕ → Bool
is_held messages processes numbers sender message receiver =
    of_three (contains compared numbers) (number_of receiver (names_in (entries_of processes)))
    (number_of sender (names_in (entries_of processes))) (number_of message (names_in (entries_of messages)))

abbrev pub is_taken : Receivers → List ℕ → List ℕ → List ℕ → Bool
is_taken r = is_held r.messages.now r.processes.now r.numbers
