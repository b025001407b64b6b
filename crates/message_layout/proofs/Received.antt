-- What a layout keeps, and what its methods answer by it.
use Rattle.std.proofs.Common.{[], ◌∷◌, ◌≡◌, ℕ, ◌<◌, List, length, map, max, get_or, refl, ap, sym, ◌∙◌, if◌then◌else◌}
use Rattle.std.specs.Prelude.{◌==◌, ◌≤◌, slice_get, unwrap_or, Some}
use Rattle.tap_base.specs.Lists.{Each}
use Rattle.tap_base.proofs.ListFacts.{each_at}
use Rattle.std.specs.List.{All, Any}
use Rattle.std.proofs.lemmas.Option.{slice_get-map, unwrap_or-slice_get}
use Rattle.tap_base.specs.declared.wire.Receive.{Receive}
use Rattle.tap_base.specs.declared.wire.Wire.{Wire}
use Rattle.tap_base.specs.declared.wire.WireField.{WireField}
use Rattle.byte_meaning.specs.Apart.{bit_length, byte_length}
use Rattle.byte_meaning.specs.Meaning.{HasReceive}
use Rattle.message_layout.specs.declared.arrivals.Arrival.{Arrival}
use Rattle.message_layout.specs.Lengths.{length_of, longest, longest_of}
use Rattle.message_layout.specs.Wires.{AreShort, IsField, IsWire, most_bits}
use Rattle.message_layout.proofs.Firsts.{received_there}
use Rattle.message_layout.specs.inner.Arrivals.{AreArrivals, AreBetween, arrival}

pub some_received : (wire : Wire) (arrivals found : List Arrival) (p q : ℕ) → AreArrivals wire.receives arrivals → AreBetween arrivals p q found → All (λ a. HasReceive wire p a.message q) found
some_received wire arrivals found p q are part k d less = are.some p q (get_or found k d).message (part.some k d less)

pub received_within : (wire : Wire) (arrivals found : List Arrival) (p q : ℕ) → IsWire wire → AreArrivals wire.receives arrivals → AreBetween arrivals p q found
    → All (λ a. a.message < length wire.messages) found
received_within wire arrivals found p q is are part k d less =
    received_there wire.messages wire.receives p q (get_or found k d).message is.received (some_received wire arrivals found p q are part k d less)

pub all_received : (wire : Wire) (arrivals found : List Arrival) (p q : ℕ) → AreArrivals wire.receives arrivals → AreBetween arrivals p q found
    → (m : ℕ) → HasReceive wire p m q → Any (λ a. a.message ≡ m) found
all_received wire arrivals found p q are part m h = let place = part.all m (are.all p q m h) in (place.0, arrival p q m, place.1, place.2, refl)

length_kept : (messages : List (List WireField)) (lengths : List ℕ) → lengths ≡ map byte_length messages → (m : ℕ) → get_or lengths m 0 ≡ length_of messages m
length_kept messages lengths e m = ap (λ ls. get_or ls m 0) e ∙ sym (unwrap_or-slice_get (map byte_length messages) m 0) ∙ ap (λ o. unwrap_or o 0) (slice_get-map byte_length messages m)

same_longest : (f g : ℕ → ℕ) → ((m : ℕ) → f m ≡ g m) → (p : ℕ) (rs : List Receive) → longest_of f p rs ≡ longest_of g p rs
same_longest f g same p [] = refl
same_longest f g same p (r ∷ rs) =
    ap (λ n. max (if r.by == p then n else 0) (longest_of f p rs)) (same r.message) ∙ ap (max (if r.by == p then g r.message else 0)) (same_longest f g same p rs)

pub longest_kept : (wire : Wire) (lengths : List ℕ) (p : ℕ) → lengths ≡ map byte_length wire.messages → longest_of (λ m. get_or lengths m 0) p wire.receives ≡ longest wire p
longest_kept wire lengths p e = same_longest (λ m. get_or lengths m 0) (length_of wire.messages) (length_kept wire.messages lengths e) p wire.receives

-- ---- the fields of a message

pub fields_there : (messages : List (List WireField)) (m : ℕ) (fields : List WireField) → Each (λ fs. Each IsField fs) messages → slice_get messages m ≡ Some fields → Each IsField fields
fields_there messages m fields all is = each_at (λ fs. Each IsField fs) messages m fields all is

pub short_there : (messages : List (List WireField)) (m : ℕ) (fields : List WireField) → AreShort messages → slice_get messages m ≡ Some fields → bit_length fields ≤ most_bits
short_there messages m fields all is = each_at (λ fs. bit_length fs ≤ most_bits) messages m fields all is
