-- The errors that have arrived at a process are rejected one by one.
use Rattle.std.proofs.Common.{◌≡◌, ◌+◌, ◌<◌, ◌≤◌, ◌∙◌, ◌⊎◌, inl, inr, ◌^◌, ℕ, Bool, true, false, List, [], ◌∷◌, ◌++◌, drop, length, slice_get, slice_set, refl, ap, sym, subst, Option, Some, None, IfSome, arith, length-append}
use Rattle.std.specs.Prelude.{◌-◌, ◌==◌, count_by, if◌then◌else◌, not, unwrap_or}
use Rattle.std.proofs.lemmas.List.Sums.{sum_by-cons}
use Rattle.std.proofs.lemmas.Bool.{eq-eqb}
use Rattle.std.specs.Option.{option_map}
use Rattle.std.proofs.lemmas.Option.{option_and_then_some, slice_get_within}
use Rattle.tap_base.specs.Lists.{Each}
use Rattle.tap_base.specs.Option.{◌>>=◌, is_yes}
use Rattle.tap_base.proofs.ListFacts.{element_at}
use Rattle.tap_exec.specs.Semantics.{Semantics}
use Rattle.abstract_run.specs.declared.label.Label.TheVariants as label
use Rattle.abstract_run.specs.declared.state.State.{State}
use Rattle.abstract_run.specs.Answers.{IsRejectOf, arrived, most_waiting}
use Rattle.abstract_run.specs.CellCount.{cells_in}
use Rattle.abstract_run.specs.Channels.{channel_of, channels_among, error_waits, in_flight}
use Rattle.abstract_run.specs.declared.state.Channel.{Channel}
use Rattle.abstract_run.specs.declared.state.Falling.{Falling}
use Rattle.abstract_run.proofs.Kept.{some_fits}
use Rattle.abstract_run.proofs.GoesOn.{live_process}
use Rattle.abstract_run.proofs.OnChannel.{place_same}
use Rattle.abstract_run.proofs.Places.{no_receiver, no_sender}
use Rattle.abstract_run.specs.Fits.{Fits}
use Rattle.abstract_run.specs.Progress.{IsPossible}
use Rattle.abstract_run.specs.Step.{is_live, step}
use Rattle.exact_choice.specs.Rejects.{Rejects, first_error, first_error_in}
use Rattle.exact_choice.proofs.RejectsGoOn.{fewer_arrived, none_arrived, none_waits, reject_goes, reject_possible}
use Rattle.world_run.specs.declared.course.Course.{Course}
use Rattle.world_run.specs.declared.deeds.Deeds.{Deeds}
use Rattle.world_run.specs.Served.{IsCourse}
use Rattle.world_run.specs.inner.Serving.{DidOne, Rejected, first_of}
use Rattle.world_run.proofs.Leaves.{reject_moves}
use Rattle.world_run.proofs.OneLabel.{course_after, did, did_more, did_nothing}
use Rattle.world_run.proofs.Recording.{both}

-- ---- the first sender

-- a list whose first is this
pub record Begins (errors : List (List ℕ)) (p q : ℕ) : Type 0 where
  pub others : List ℕ
  pub stood : slice_get errors p ≡ Some (q ∷ others)

pub begins : (errors : List (List ℕ)) (p q : ℕ) → first_of errors p ≡ Some q → Begins errors p q
begins errors p q e = option_and_then_some (λ senders. slice_get senders 0) (slice_get errors p) q e (λ senders is first. by_list senders is first) where
  by_list : (senders : List ℕ) → slice_get errors p ≡ Some senders → slice_get senders 0 ≡ Some q → Begins errors p q
  by_list [] is first = cc
  by_list (r ∷ rs) is first = let same : r ≡ q = cc in record { others = rs; stood = is ∙ ap (λ (x : ℕ). Some (x ∷ rs)) same }

pub none_first : (errors : List (List ℕ)) (p : ℕ) → p < length errors → first_of errors p ≡ None → slice_get errors p ≡ Some []
none_first errors p there e = let x = element_at errors p there in by_list x.0 x.1 (ap (λ o. o >>= λ (senders : List ℕ). slice_get senders 0) (sym x.1) ∙ e) where
  by_list : (senders : List ℕ) → slice_get errors p ≡ Some senders → slice_get senders 0 ≡ None → slice_get errors p ≡ Some []
  by_list [] is none = is
  by_list (r ∷ rs) is none = cc

-- ---- one reject

-- an error that has arrived first can be rejected
pub can_reject : (m : Semantics) (course : Course) (p q : ℕ) → IsCourse m course → course.state.falling ≡ None → is_live course.state p ≡ true → first_of course.errors p ≡ Some q
    → (i : ℕ) × (first_error course.state q p ≡ Some i) × IsPossible m course.state (label.Reject q p i)
can_reject m course p q whole settled up first =
    let b = begins course.errors p q first in reject_possible m course.state p q b.others course.errors settled up whole.errors b.stood

pub never_refused : (m : Semantics) (s : State) (p q i : ℕ) → s.falling ≡ None → is_live s p ≡ true → first_error s q p ≡ Some i → step m s (label.Reject q p i) ≡ None → ⊥
never_refused m s p q i settled up first none = let x = reject_goes m s p q i settled up first in let is = x.is in cc

-- the process is one of the system, and so is its peer
pub process_there : (m : Semantics) (s : State) (p : ℕ) → Fits m s → is_live s p ≡ true → p < length m.processes
process_there m s p fits up = let x = live_process m s p fits up in slice_get_within m.processes p x.0 x.1

pub sender_there : (m : Semantics) (s : State) (q p : ℕ) (c : Channel) → Fits m s → channel_of q p s.channels ≡ Some c → q < length m.processes
sender_there m s q p c fits is = elim (before_or_behind q (length m.processes)) [
  | inl before ↦ before
  | inr behind ↦
      let none = place_same 0 q p s.channels (channels_among (length m.processes)) (fits.entries.senders, fits.entries.receivers) ∙ no_sender q p (length m.processes) behind in
      let nowhere : channel_of q p s.channels ≡ None = ap (λ (o : Option ℕ). o >>= λ k. slice_get s.channels k) none in
      cc
] where
  before_or_behind : (a b : ℕ) → (a < b) ⊎ (b ≤ a)
  before_or_behind a b = grind arith

pub receiver_there : (m : Semantics) (s : State) (q p : ℕ) (c : Channel) → Fits m s → channel_of q p s.channels ≡ Some c → p < length m.processes
receiver_there m s q p c fits is = elim (before_or_behind p (length m.processes)) [
  | inl before ↦ before
  | inr behind ↦
      let none = place_same 0 q p s.channels (channels_among (length m.processes)) (fits.entries.senders, fits.entries.receivers) ∙ no_receiver q p (length m.processes) behind in
      let nowhere : channel_of q p s.channels ≡ None = ap (λ (o : Option ℕ). o >>= λ k. slice_get s.channels k) none in
      cc
] where
  before_or_behind : (a b : ℕ) → (a < b) ⊎ (b ≤ a)
  before_or_behind a b = grind arith

pub peer_there : (m : Semantics) (s : State) (q p i : ℕ) → Fits m s → first_error s q p ≡ Some i → q < length m.processes
peer_there m s q p i fits e = option_and_then_some first_error_in (channel_of q p s.channels) i e (λ c is last. sender_there m s q p c fits is)

-- it was rejected, and is no longer the first
pub one_rejected : (m : Semantics) (old middle new : Course) (p q i : ℕ) (before after : Deeds) → IsCourse m old → old.state.falling ≡ None → p < length m.processes → q < length m.processes → i < 2 ^ 32
    → first_of old.errors p ≡ Some q → first_error old.state q p ≡ Some i → DidOne m (label.Reject q p i) old middle before after → middle.turnstiles ≡ old.turnstiles → middle.generators ≡ old.generators → middle.errors ≡ old.errors
    → IfSome (slice_get middle.errors p) (λ senders. new.errors ≡ slice_set middle.errors p (drop 1 senders)) → new.state ≡ middle.state → new.turnstiles ≡ middle.turnstiles → new.generators ≡ middle.generators → new.cells ≡ middle.cells
    → Rejected m p 1 old new before after
one_rejected m old middle new p q i before after whole settled there peer short first at d cursors draws errors moved state turnstiles generators cells =
    let b = begins old.errors p q first in
    let stood : slice_get middle.errors p ≡ Some (q ∷ b.others) = ap (λ (es : List (List ℕ)). slice_get es p) errors ∙ b.stood in
    let goes : new.errors ≡ slice_set middle.errors p b.others = subst (λ o. IfSome o (λ (senders : List ℕ). new.errors ≡ slice_set middle.errors p (drop 1 senders))) stood moved in
    let rejects : Rejects (old.state, label.Reject q p i) old.errors new.errors =
    record { others = b.others; stood = b.stood; first = at; moved = goes ∙ ap (λ (es : List (List ℕ)). slice_set es p b.others) errors } in
    let e : DidOne m (label.Reject q p i) old new before after = record {
      sends = d.sends;
      ran = d.ran ∙ ap (λ s. Some (s, d.sends)) (sym state);
      fits = subst (Fits m) (sym state) d.fits;
      cells = cells ∙ d.cells ∙ ap (λ s. cells_in s) (sym state);
      few = let few = d.few in omega (arith, few, cells);
      recorded = d.recorded;
    } in
    let chosen = turnstiles ∙ cursors in
    let drawn = generators ∙ draws in
    let leaves = reject_moves m old.state new.state q p i e.sends settled e.ran in
    record {
      labels = label.Reject q p i ∷ [];
      of_process = ((q, i, refl), tt);
      counted = refl;
      did = did m old new (label.Reject q p i) before after e chosen drawn rejects (peer, there, short);
      course = course_after m old new (label.Reject q p i) before after whole e chosen drawn rejects;
      settled = ap (λ (s : State). s.falling) leaves.next ∙ settled;
      down = ap (λ (s : State). s.down) leaves.next;
      fewer = fewer_arrived m old.state new.state q p i e.sends e.ran;
      few = let few = e.few in omega (arith, few);
    }

-- ---- many

pub none_rejected : (m : Semantics) (course : Course) (p : ℕ) (deeds : Deeds) → IsCourse m course → course.state.falling ≡ None → Rejected m p 0 course course deeds deeds
none_rejected m course p deeds whole settled = record {
  labels = [];
  of_process = tt;
  counted = refl;
  did = did_nothing m course deeds;
  course = whole;
  settled = settled;
  down = refl;
  fewer = omega arith;
  few = omega arith;
}

pub one_more_rejected : (m : Semantics) (a b c : Course) (p n : ℕ) (before middle after : Deeds) → Rejected m p n a b before middle → Rejected m p 1 b c middle after → Rejected m p (n + 1) a c before after
one_more_rejected m a b c p n before middle after d e = record {
  labels = d.labels ++ e.labels;
  of_process = both (IsRejectOf p) d.labels e.labels d.of_process e.of_process;
  counted = let some = d.counted in let one = e.counted in omega (arith, some, one, length-append d.labels e.labels);
  did = did_more m a b c d.labels e.labels before middle after d.did e.did;
  course = e.course;
  settled = e.settled;
  down = e.down ∙ d.down;
  fewer = let some = d.fewer in let one = e.fewer in omega (arith, some, one);
  few = let some = d.few in let one = e.few in omega (arith, some, one);
}

-- the process stays live
pub still_live : (m : Semantics) (a b : Course) (p n : ℕ) (before after : Deeds) → Rejected m p n a b before after → is_live a.state p ≡ true → is_live b.state p ≡ true
still_live m a b p n before after d up = ap (λ (down : List Bool). is_yes (option_map not (slice_get down p))) d.down ∙ up

below_or_full : (n : ℕ) → n ≤ most_waiting → (n < most_waiting) ⊎ (n ≡ most_waiting)
below_or_full n h = grind arith

-- no error is left, where not too many cells had arrived
pub clean : (m : Semantics) (a b : Course) (p n : ℕ) (before after : Deeds) → Rejected m p n a b before after → n ≤ most_waiting → (n < most_waiting → slice_get b.errors p ≡ Some [])
    → arrived a.state p ≤ most_waiting → error_waits b.state.channels p ≡ false
clean m a b p n before after d most left few = elim (below_or_full n most) [
  | inl below ↦ none_waits m b.state p b.errors d.course.fits d.course.errors (left below)
  | inr full ↦ none_arrived b.state p (let fewer = d.fewer in omega (arith, fewer, full, few))
]

-- ---- a stop that is due

flies : (m : Semantics) (s : State) (q p : ℕ) → Fits m s → 1 ≤ in_flight s.channels q p → p < length m.processes
flies m s q p fits some = by_channel (channel_of q p s.channels) refl some where
  by_channel : (o : Option Channel) → channel_of q p s.channels ≡ o → 1 ≤ unwrap_or (option_map (λ (c : Channel). length c.cells - c.mark) o) 0 → p < length m.processes
  by_channel None is h = absurd (omega (arith, h))
  by_channel (Some c) is h = receiver_there m s q p c fits is

counted : (r p : ℕ) (rs : List ℕ) → count_by (λ x. x == p) (r ∷ rs) ≡ (if r == p then 1 else 0) + count_by (λ x. x == p) rs
counted r p rs = sum_by-cons (λ x. if x == p then 1 else 0) r rs

counted_first : (r : ℕ) (rs : List ℕ) → 1 ≤ count_by (λ x. x == r) (r ∷ rs)
counted_first r rs = let one : ◌≡◌ {A = ℕ} (if r == r then 1 else 0) 1 = (let same = eq-eqb r r refl in rw same refl) in omega (arith, one, counted r r rs)

counted_rest : (p r : ℕ) (rs : List ℕ) → count_by (λ x. x == p) rs ≤ count_by (λ x. x == p) (r ∷ rs)
counted_rest p r rs = omega (arith, counted r p rs)

receivers_there : (m : Semantics) (s : State) (q : ℕ) (rs : List ℕ) → Fits m s → ((p : ℕ) → count_by (λ r. r == p) rs ≤ in_flight s.channels q p) → Each (λ p. p < length m.processes) rs
receivers_there m s q [] fits few = tt
receivers_there m s q (r ∷ rs) fits few = (
  flies m s q r fits (let one = counted_first r rs in let most = few r in omega (arith, one, most)),
  receivers_there m s q rs fits (λ p. let rest = counted_rest p r rs in let most = few p in omega (arith, rest, most)),
)

-- it names processes of the system
pub fall_sized : (m : Semantics) (s : State) (f : Falling) → Fits m s → s.falling ≡ Some f → (f.process < length m.processes) × Each (λ p. p < length m.processes) f.receivers
fall_sized m s f fits is =
    let some = some_fits s f s.falling is fits.falling in
    (process_there m s f.process fits some.live, receivers_there m s f.process f.receivers fits some.in_flight)
