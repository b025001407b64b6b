-- The first error of a list can be rejected, where none is in the list none waits, and a reject leaves one arrived cell fewer.
use Rattle.std.proofs.Common.{◌≡◌, ◌∙◌, ◌+◌, ◌-◌, ◌<◌, ◌≤◌, ◌==◌, ◌&&◌, ◌||◌, not, refl, ap, sym, ℕ, Bool, true, false, if◌then◌else◌, List, [], ◌∷◌, map, take, length, slice_get, slice_set, get_or, Option, Some, None, nat_lt, arith}
use Rattle.std.specs.Prelude.{count_by, position, sum}
use Rattle.std.specs.List.{list_any, position_or_len, remove}
use Rattle.std.proofs.lemmas.Bool.{eqb-true, eq-eqb}
use Rattle.std.proofs.lemmas.Bool.Decides.{nat_tests}
use Rattle.std.proofs.lemmas.List.Quantifiers.{position-Some}
use Rattle.std.proofs.lemmas.List.Sums.{sum_by-cons}
use Rattle.std.proofs.lemmas.Option.{option_and_then_some, slice_get-get_or}
use Rattle.tap_base.specs.Lists.{Each}
use Rattle.tap_base.specs.Option.{◌>>=◌}
use Rattle.tap_base.proofs.ListFacts.{each_of}
use Rattle.tap_exec.specs.declared.running.Outgoing.{Outgoing}
use Rattle.tap_exec.specs.Semantics.{Semantics}
use Rattle.byte_meaning.specs.declared.cell.Cell.{Cell}
use Rattle.byte_meaning.specs.declared.cell.Cell.TheVariants as cell
use Rattle.abstract_run.specs.declared.label.Label.TheVariants as label
use Rattle.abstract_run.specs.declared.state.Channel.{Channel}
use Rattle.abstract_run.specs.declared.state.State.{State}
use Rattle.abstract_run.specs.Answers.{arrived}
use Rattle.abstract_run.specs.Channels.{arrived_in, channel_of, channels_among, error_waits, has_error_for, is_error, place_of, rejected_at}
use Rattle.abstract_run.specs.Fits.{Fits}
use Rattle.abstract_run.specs.Progress.{IsPossible}
use Rattle.abstract_run.specs.Step.{is_live, step, ticked}
use Rattle.abstract_run.proofs.Apart.{among_apart, apart_same, each_found}
use Rattle.abstract_run.proofs.Found.{found}
use Rattle.abstract_run.proofs.Kept.{Rows, falls, row_of, settled}
use Rattle.abstract_run.proofs.Mild.{moved_by}
use Rattle.abstract_run.proofs.Moves.{rejects}
use Rattle.abstract_run.proofs.OnChannel.{Left, changed, here, joined, later, left_by}
use Rattle.abstract_run.proofs.Ticked.{read_by}
use Rattle.exact_choice.specs.Rejects.{AreErrorsOf, errors_from, first_error, first_error_in}
use Rattle.exact_choice.proofs.RejectsChannels.{bad, bad_is, bad_of}
use Rattle.exact_choice.proofs.RejectsKept.{quiet, rejected_by}

-- which processes are down or are to be cut off, and what is falling, stay
pub record Stays (s t : State) : Type 0 where
  pub down : t.down ≡ s.down
  pub cuts : t.cuts ≡ s.cuts
  pub falling : t.falling ≡ s.falling

-- ---- a reading

pub ticks_leave : (semantics : Semantics) (s t : State) (p c : ℕ) (sends : List Outgoing) → step semantics s (label.Tick p c) ≡ Some (t, sends) → t.channels ≡ s.channels
ticks_leave semantics s t p c sends e = by_row (row_of semantics s (label.Tick p c) (t, sends) e) where
  by_row : Rows semantics s (label.Tick p c) (t, sends) → t.channels ≡ s.channels
  by_row (settled is done) = ap (λ (u : State). u.channels) (sym (read_by s t p c (quiet (ticked s p c) t sends done)).next)
  by_row (falls f is done) = cc

pub ticks_stay : (semantics : Semantics) (s t : State) (p c : ℕ) (sends : List Outgoing) → step semantics s (label.Tick p c) ≡ Some (t, sends) → Stays s t
ticks_stay semantics s t p c sends e = by_row (row_of semantics s (label.Tick p c) (t, sends) e) where
  by_row : Rows semantics s (label.Tick p c) (t, sends) → Stays s t
  by_row (settled is done) =
      let next = sym (read_by s t p c (quiet (ticked s p c) t sends done)).next in
      record { down = ap (λ (u : State). u.down) next; cuts = ap (λ (u : State). u.cuts) next; falling = ap (λ (u : State). u.falling) next }
  by_row (falls f is done) = cc

-- ---- a reject

abbrev arrived_among : ℕ → List Channel → ℕ
arrived_among p cs = sum (map (arrived_in p) cs)

arrived_next : (p : ℕ) (c : Channel) (cs : List Channel) → arrived_among p (c ∷ cs) ≡ arrived_in p c + arrived_among p cs
arrived_next p c cs = sum_by-cons (λ n. n) (arrived_in p c) (map (arrived_in p) cs)

fewer_here : (p i : ℕ) (c d : Channel) → c.to ≡ p → rejected_at i c ≡ Some d → arrived_in p d + 1 ≡ arrived_in p c
fewer_here p i c d to e =
    let x = rejects i c d e in
    let before = x.before in
    let mark = ap (λ (y : Channel). y.mark) x.now in
    let there = eq-eqb c.to p to in
    let there_too = eq-eqb d.to p (ap (λ (y : Channel). y.to) x.now ∙ to) in
    rw (there, there_too) (omega (arith, before, mark))

fewer_among : (q p i : ℕ) (cs ds : List Channel) → changed q p (rejected_at i) cs ≡ Some ds → arrived_among p ds + 1 ≡ arrived_among p cs
fewer_among q p i [] ds e = cc
fewer_among q p i (c ∷ cs) ds e = by_place (left_by q p (rejected_at i) c cs ds e) (λ es done. fewer_among q p i cs es done) where
  by_place : Left q p (rejected_at i) c cs ds → ((es : List Channel) → changed q p (rejected_at i) cs ≡ Some es → arrived_among p es + 1 ≡ arrived_among p cs)
      → arrived_among p ds + 1 ≡ arrived_among p (c ∷ cs)
  by_place (here d is done same) more =
      let one = fewer_here p i c d (joined q p c is).1 done in ap (λ xs. arrived_among p xs + 1) same ∙ omega (arith, one, arrived_next p d cs, arrived_next p c cs)
  by_place (later es is done same) more =
      let rest = more es done in ap (λ xs. arrived_among p xs + 1) same ∙ omega (arith, rest, arrived_next p c es, arrived_next p c cs)

pub fewer_arrived : (semantics : Semantics) (s t : State) (q p i : ℕ) (sends : List Outgoing) → step semantics s (label.Reject q p i) ≡ Some (t, sends) → arrived t p + 1 ≡ arrived s p
fewer_arrived semantics s t q p i sends e = by_row (row_of semantics s (label.Reject q p i) (t, sends) e) where
  by_row : Rows semantics s (label.Reject q p i) (t, sends) → arrived t p + 1 ≡ arrived s p
  by_row (settled is done) =
      let x = moved_by s t q p (rejected_at i) (quiet _ t sends (rejected_by s t q p i sends done)) in
      ap (λ (u : State). arrived u p + 1) x.next ∙ fewer_among q p i s.channels x.channels x.is
  by_row (falls f is done) = cc

pub rejects_stay : (semantics : Semantics) (s t : State) (q p i : ℕ) (sends : List Outgoing) → step semantics s (label.Reject q p i) ≡ Some (t, sends) → Stays s t
rejects_stay semantics s t q p i sends e = by_row (row_of semantics s (label.Reject q p i) (t, sends) e) where
  by_row : Rows semantics s (label.Reject q p i) (t, sends) → Stays s t
  by_row (settled is done) =
      let next = (moved_by s t q p (rejected_at i) (quiet _ t sends (rejected_by s t q p i sends done))).next in
      record { down = ap (λ (u : State). u.down) next; cuts = ap (λ (u : State). u.cuts) next; falling = ap (λ (u : State). u.falling) next }
  by_row (falls f is done) = cc

-- ---- none is left

all_none : {A : Type 0} (f : A → Bool) (xs : List A) → Each (λ x. f x ≡ false) xs → list_any f xs ≡ false
all_none f [] h = refl
all_none f (x ∷ xs) h = let first = h.0 in let rest = all_none f xs h.1 in rw (first, rest) refl

unmarked : (p k : ℕ) (cells : List Cell) (b : Bool) → (if b then k else 0) ≡ 0 → (b && list_any is_error (take k cells)) ≡ false
unmarked p k cells false h = refl
unmarked p k cells true h = ap (λ n. list_any is_error (take n cells)) h

none_among : (p : ℕ) (cs : List Channel) → arrived_among p cs ≡ 0 → Each (λ c. has_error_for p c ≡ false) cs
none_among p [] h = tt
none_among p (c ∷ cs) h =
    let first : arrived_in p c ≡ 0 = omega (arith, h, arrived_next p c cs) in
    (unmarked p c.mark c.cells (c.to == p) first, none_among p cs (omega (arith, h, arrived_next p c cs)))

pub none_arrived : (s : State) (p : ℕ) → arrived s p ≡ 0 → error_waits s.channels p ≡ false
none_arrived s p h = all_none (has_error_for p) s.channels (none_among p s.channels h)

abbrev errors : List Cell → ℕ
errors xs = count_by is_error xs

errors_next : (x : Cell) (xs : List Cell) → errors (x ∷ xs) ≡ (if is_error x then 1 else 0) + errors xs
errors_next x xs = sum_by-cons (λ y. if is_error y then 1 else 0) x xs

none_counted : (xs : List Cell) → errors xs ≡ 0 → list_any is_error xs ≡ false
none_counted [] h = refl
none_counted (x ∷ xs) h = by_test (is_error x) (sym (errors_next x xs) ∙ h) (none_counted xs) where
  by_test : (b : Bool) → (if b then 1 else 0) + errors xs ≡ 0 → (errors xs ≡ 0 → list_any is_error xs ≡ false) → (b || list_any is_error xs) ≡ false
  by_test true h more = absurd (omega (arith, h))
  by_test false h more = more (omega (arith, h))

no_error_in : (p : ℕ) (cs : List Channel) (c : Channel) → ((q : ℕ) → bad q p cs ≡ 0) → found c.from c.to cs ≡ Some c → has_error_for p c ≡ false
no_error_in p cs c none e = by_test (c.to == p) refl where
  by_test : (b : Bool) → (c.to == p) ≡ b → (b && list_any is_error (take c.mark c.cells)) ≡ false
  by_test false is = refl
  by_test true is = none_counted (take c.mark c.cells) (ap bad_of (sym e) ∙ ap (λ r. bad c.from r cs) (eqb-true c.to p is) ∙ none c.from)

-- Where the list of p is empty no error waits.
pub none_waits : (semantics : Semantics) (s : State) (p : ℕ) (errors : List (List ℕ)) → Fits semantics s → AreErrorsOf semantics s errors → slice_get errors p ≡ Some [] → error_waits s.channels p ≡ false
none_waits semantics s p errors fits h is =
    let n = length semantics.processes in
    let apart = apart_same s.channels (channels_among n) (fits.entries.senders, fits.entries.receivers) (among_apart n) in
    let none : (q : ℕ) → bad q p s.channels ≡ 0 = λ q. sym (bad_is q p s.channels) ∙ sym (h.stand p [] is q) in
    all_none (has_error_for p) s.channels
    (each_found (λ c. Unit {0}) (λ c. has_error_for p c ≡ false) s.channels apart (each_of (λ c. Unit {0}) s.channels (λ c. tt)) (λ c u e. no_error_in p s.channels c none e))

-- ---- the first can be rejected

first_within : (xs : List Cell) → 1 ≤ errors xs → position_or_len is_error xs < length xs
first_within [] h = absurd (omega (arith, h))
first_within (x ∷ xs) h = by_test (is_error x) (errors_next x xs) (first_within xs) where
  by_test : (b : Bool) → errors (x ∷ xs) ≡ (if b then 1 else 0) + errors xs → (1 ≤ errors xs → position_or_len is_error xs < length xs)
      → (if not b then 1 + position_or_len is_error xs else 0) < length (x ∷ xs)
  by_test true e more = omega arith
  by_test false e more = let rest = more (omega (arith, h, e)) in omega (arith, rest)

first_there : (xs : List Cell) → 1 ≤ errors xs → (i : ℕ) × (position is_error xs ≡ Some i)
first_there xs h =
    let within = first_within xs h in
    let test : nat_lt (position_or_len is_error xs) (length xs) ≡ true = grind (arith, nat_tests) in
    (position_or_len is_error xs, rw test refl)

can_reject : (i : ℕ) (c : Channel) → first_error_in c ≡ Some i → (d : Channel) × (rejected_at i c ≡ Some d)
can_reject i c e =
    let xs = take c.mark c.cells in
    let x = position-Some is_error xs i cell.Error e in
    let there : slice_get xs i ≡ Some (get_or xs i cell.Error) = slice_get-get_or xs i cell.Error x.0 in
    let is = x.1 in
    (record c { cells = remove c.cells i; mark = c.mark - 1 }, rw (there, is) refl)

reject_when : (semantics : Semantics) (s : State) (q p i k : ℕ) (c d : Channel) → s.falling ≡ None → is_live s p ≡ true → place_of q p s.channels ≡ Some k → slice_get s.channels k ≡ Some c
    → rejected_at i c ≡ Some d → step semantics s (label.Reject q p i) ≡ Some (record s { channels = slice_set s.channels k d }, [])
reject_when semantics s q p i k c d calm up at there done = rw (calm, up, at, there, done) refl

-- The first error of a channel to a process that is not down can be rejected.
pub reject_goes : (semantics : Semantics) (s : State) (p q i : ℕ) → s.falling ≡ None → is_live s p ≡ true → first_error s q p ≡ Some i → IsPossible semantics s (label.Reject q p i)
reject_goes semantics s p q i calm up e =
    option_and_then_some first_error_in (channel_of q p s.channels) i e (λ c is place.
    option_and_then_some (λ k. slice_get s.channels k) (place_of q p s.channels) c is (λ k at there.
    let left = can_reject i c place in
    record { next = record s { channels = slice_set s.channels k left.0 }; sends = []; is = reject_when semantics s q p i k c left.0 calm up at there left.1 }))

counted_first : (q : ℕ) (qs : List ℕ) → 1 ≤ count_by (λ r. r == q) (q ∷ qs)
counted_first q qs =
    let same = eq-eqb q q refl in
    let one : ◌≡◌ {A = ℕ} (if q == q then 1 else 0) 1 = rw same refl in
    omega (arith, one, sum_by-cons (λ r. if r == q then 1 else 0) q qs)

some_error : (cs : List Channel) (q p : ℕ) → 1 ≤ errors_from cs q p → (i : ℕ) × ((channel_of q p cs >>= first_error_in) ≡ Some i)
some_error cs q p h = by_channel (channel_of q p cs) h where
  by_channel : (o : Option Channel) → 1 ≤ bad_of o → (i : ℕ) × ((o >>= first_error_in) ≡ Some i)
  by_channel None h = absurd (omega (arith, h))
  by_channel (Some c) h = first_there (take c.mark c.cells) h

-- So can that of the peer which is the first in the list of a process that is not down.
pub reject_possible : (semantics : Semantics) (s : State) (p q : ℕ) (qs : List ℕ) (errors : List (List ℕ)) → s.falling ≡ None → is_live s p ≡ true → AreErrorsOf semantics s errors
    → slice_get errors p ≡ Some (q ∷ qs) → (i : ℕ) × (first_error s q p ≡ Some i) × IsPossible semantics s (label.Reject q p i)
reject_possible semantics s p q qs errors calm up h is =
    let many = h.stand p (q ∷ qs) is q in
    let x = some_error s.channels q p (omega (arith, many, counted_first q qs)) in
    (x.0, x.1, reject_goes semantics s p q x.0 calm up x.1)
