-- The events of a generated schedule have lines.
use Rattle.std.proofs.Common.{◌≡◌, refl, ℕ, zero, suc, ◌+◌, ◌*◌, ◌<◌, ◌==◌, ◌%◌, ◌^◌, nat_lt, Bool, true, false, ◌||◌, if◌then◌else◌, List, [], ◌∷◌, length, slice_index_or, arith, rules, lit≤}
use Rattle.std.specs.Int.{w32, to_be_bytes}
use Rattle.std.proofs.Math.Nat.{mod-lt}
use Rattle.tap_base.specs.Lists.{Each}
use Rattle.run_text.specs.ScheduleText.{HasLine}
use Rattle.run_text.specs.Sized.{AreDatagram}
use Rattle.schedule_gen.specs.declared.routes.Route.{Route}
use Rattle.schedule_gen.specs.declared.rows.Row.{Row}
use Rattle.schedule_gen.specs.declared.rows.Row.TheVariants as row
use Rattle.schedule_gen.specs.Listed.{AllAreListed}
use Rattle.schedule_gen.specs.Schedule.{Making, opening, events_from, event_on, next_row, next_time, rest, row_of, word, behind, channel_of}
use Rattle.schedule_gen.specs.Sending.{route}
use Rattle.schedule_gen.proofs.Away.{IsApart, routes_apart}
use Rattle.schedule_gen.proofs.Goes.{as_long, rise_small}

each_at : {A : Type 0} (P : A → Type 0) (xs : List A) (i : ℕ) (d : A) → Each P xs → i < length xs → P (slice_index_or xs i d)
each_at P [] i d h within = search (rules, within)
each_at P (x ∷ xs) zero d h within = h.0
each_at P (x ∷ xs) (suc i) d h within = each_at P xs i d h.1 (omega (arith, within))

-- a row on a channel asks for one
abbrev IsBacked : Row → ℕ → Type 0
IsBacked row.Turn channels = Unit {0}
IsBacked _ channels = 0 < channels

by_tests : (a b c d e f : Bool) (channels : ℕ) → (a ≡ false → 0 < channels)
    → IsBacked (if a then row.Turn else if b then row.Arrive else if c then row.Lose else if d then row.Copy else if e then row.Move else if f then row.Damage else row.Forge) channels
by_tests true b c d e f channels h = tt
by_tests false true c d e f channels h = h refl
by_tests false false true d e f channels h = h refl
by_tests false false false true e f channels h = h refl
by_tests false false false false true f channels h = h refl
by_tests false false false false false true channels h = h refl
by_tests false false false false false false channels h = h refl

some_there : (b : Bool) (channels : ℕ) → (b || channels == 0) ≡ false → 0 < channels
some_there true channels e = search rules
some_there false zero e = search rules
some_there false (suc channels) e = omega arith

backed : (channels left r : ℕ) → IsBacked (row_of channels left r) channels
backed channels left r = by_tests (nat_lt r 50 || channels == 0) (nat_lt r 85 || left == 0) (nat_lt r 90) (nat_lt r 94) (nat_lt r 97) (nat_lt r 99) channels (some_there (nat_lt r 50) channels)

drawn : (n x : ℕ) (cs : List Route) → Each (IsApart n) cs → 0 < length cs → IsApart n (channel_of cs x)
drawn n x cs h some = each_at (IsApart n) cs (x % length cs) (route 0 0) h (mod-lt x some)

-- four bytes are a datagram
four_sent : (y : ℕ) → AreDatagram (to_be_bytes w32 y)
four_sent y = (lit≤ tt, (mod-lt _ (lit≤ tt), (mod-lt _ (lit≤ tt), (mod-lt _ (lit≤ tt), (mod-lt _ (lit≤ tt), tt)))))

abbrev short : ℕ → Type 0
short i = i < 2 ^ 32

has_line : (r : Row) (cs : List Route) (x n time y : ℕ) → 0 < n → time < 2 ^ 64 → Each (IsApart n) cs → IsBacked r (length cs) → HasLine n (event_on r (channel_of cs x) n time y)
has_line row.Turn cs x n time y some soon h b = (mod-lt y some, soon)
has_line row.Arrive cs x n time y some soon h b = drawn n x cs h b
has_line row.Lose cs x n time y some soon h b = (drawn n x cs h b, lit≤ tt)
has_line row.Copy cs x n time y some soon h b = (drawn n x cs h b, lit≤ tt)
has_line row.Move cs x n time y some soon h b = (drawn n x cs h b, lit≤ tt, lit≤ tt)
has_line row.Damage cs x n time y some soon h b = (drawn n x cs h b, lit≤ tt, four_sent y)
has_line row.Forge cs x n time y some soon h b = (drawn n x cs h b, four_sent y)

all_have : (k : ℕ) (m : Making) → 0 < m.processes → m.time + k * 49 < 2 ^ 64 → Each (IsApart m.processes) m.channels → Each (HasLine m.processes) (events_from k m)
unfolding events_from
all_have zero m some soon h = tt
all_have (suc k) m some soon h =
    let rise = rise_small (next_row m) (word (behind m.words)) in
    let now : next_time m < 2 ^ 64 = omega (arith, rise, soon) in
    let later : next_time m + k * 49 < 2 ^ 64 = omega (arith, rise, soon) in (
      has_line (next_row m) m.channels (word (behind m.words)) m.processes (next_time m) (word (behind (behind m.words))) some now h (backed (length m.channels) m.left (word m.words % 100)),
      all_have k (rest m) some later h,
    )

pub all_are_listed : AllAreListed
all_are_listed system seed n faults ok few = record {
  each = all_have n (opening system seed faults) ok.some_process (omega (arith, few)) (routes_apart system (length system.processes) 0 system.processes (omega arith) ok.processes);
  few = let long = as_long n (opening system seed faults) in omega (arith, few, long);
}
