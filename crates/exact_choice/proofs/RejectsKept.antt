-- The lists of the senders of errors go on as the errors in the channels do.
use Rattle.std.proofs.Common.{◌≡◌, ◌∙◌, ◌+◌, ◌≤◌, ◌==◌, refl, ap, sym, subst, ℕ, zero, suc, Bool, true, false, if◌then◌else◌, ℤ, List, [], ◌∷◌, ◌++◌, ◌&&◌, replicate, length, slice_get, slice_set, Option, Some, None, arith}
use Rattle.std.specs.Prelude.{count_by, unwrap_or}
use Rattle.std.specs.List.{range_with_len}
use Rattle.std.specs.Option.{option_map}
use Rattle.std.proofs.lemmas.Bool.{eqb-false, eqb-true}
use Rattle.std.proofs.lemmas.List.{length-replicate, length-set}
use Rattle.std.proofs.lemmas.List.Sums.{sum_by-cons, sum_by_push}
use Rattle.std.proofs.lemmas.Option.{cond_some, option_and_then_some}
use Rattle.tap_base.specs.declared.system.Inputs.{Inputs}
use Rattle.tap_base.specs.Faults.{changed_to, copied_at, lost_at, moved_to}
use Rattle.tap_base.specs.Lists.{Each}
use Rattle.tap_base.specs.Option.{◌>>=◌, is_yes, provided}
use Rattle.tap_base.proofs.ListFacts.{each_at, each_flat, each_replicate}
use Rattle.tap_exec.specs.declared.running.Outgoing.{Outgoing}
use Rattle.tap_exec.specs.Semantics.{Semantics}
use Rattle.byte_meaning.specs.declared.cell.Cell.{Cell}
use Rattle.byte_meaning.specs.Reading.{meaning}
use Rattle.abstract_run.specs.declared.label.Label.{Label}
use Rattle.abstract_run.specs.declared.label.Label.TheVariants as label
use Rattle.abstract_run.specs.declared.state.Channel.{Channel}
use Rattle.abstract_run.specs.declared.state.Falling.{Falling}
use Rattle.abstract_run.specs.declared.state.State.{State}
use Rattle.abstract_run.specs.Channels.{appended, channel_between, channels_among, empty_channel, on_flight, rejected_at, where_room}
use Rattle.abstract_run.specs.Fits.{Fits, IsFitChannel}
use Rattle.abstract_run.specs.Opening.{opening_state}
use Rattle.abstract_run.specs.Run.{state_after}
use Rattle.abstract_run.specs.Safe.{BodiesKeepRanges}
use Rattle.tap_exec.specs.Execution.{is_empty}
use Rattle.abstract_run.specs.Step.{After, channel_changed, cut_off, fallen, falling_step, is_flooded, is_idle, is_live, is_zero, mark_raised, put_down, rejected, settled_step, silent, step, ticked}
use Rattle.abstract_run.proofs.Acted.{Acted, acted_by}
use Rattle.abstract_run.proofs.Apart.{among_apart, apart_same}
use Rattle.abstract_run.proofs.Found.{channel_of_is, found, found_one}
use Rattle.abstract_run.proofs.Kept.{Rows, fallen_by, falls, flies_from, row_of, settled, some_fits, steps_keep}
use Rattle.abstract_run.proofs.Mild.{Mild, moved_by}
use Rattle.abstract_run.proofs.Moves.{addition, arrival, copy, damage, loss, rejection, shift}
use Rattle.abstract_run.proofs.OnChannel.{mapped_some}
use Rattle.abstract_run.proofs.Taken.{taken_each, taken_fits}
use Rattle.abstract_run.proofs.Ticked.{read_by}
use Rattle.exact_choice.specs.Moments.{Moment, moments}
use Rattle.exact_choice.specs.Rejects.{AllReject, AreErrorsOf, Rejects, RejectsFirst, arrived_errors, arrives_bad, errors_from, has_bad_next, one_more, opening_errors}
use Rattle.exact_choice.proofs.RejectsActs.{fallen_same, mild_ends, sent_same, taken_same}
use Rattle.exact_choice.proofs.RejectsCells.{end_leaves, fewer_errors, flight_leaves, more_errors, roomy_leaves}
use Rattle.exact_choice.proofs.RejectsChannels.{Same, Turned, bad, bad_is, bad_of, counted_elsewhere, counted_same, counted_to, turned}

-- ---- one of the lists

-- what stands in one of the lists, after that of p has become another
data Put (p : ℕ) (senders : List ℕ) (errors : List (List ℕ)) (j : ℕ) (now : List ℕ) : Type 0 where
  changed : (old : List ℕ) → p ≡ j → slice_get errors p ≡ Some old → now ≡ senders → Put p senders errors j now
  stood : (p ≡ j → ⊥) → slice_get errors j ≡ Some now → Put p senders errors j now

set_here : (errors : List (List ℕ)) (p : ℕ) (senders now : List ℕ) → slice_get (slice_set errors p senders) p ≡ Some now → (old : List ℕ) × (slice_get errors p ≡ Some old) × (now ≡ senders)
set_here [] p senders now e = cc
set_here (x ∷ xs) zero senders now e = (x, refl, cc)
set_here (x ∷ xs) (suc p) senders now e = set_here xs p senders now e

set_other : (errors : List (List ℕ)) (p j : ℕ) (senders : List ℕ) → (p ≡ j → ⊥) → slice_get (slice_set errors p senders) j ≡ slice_get errors j
set_other [] p j senders other = refl
set_other (x ∷ xs) zero zero senders other = absurd (other refl)
set_other (x ∷ xs) zero (suc j) senders other = refl
set_other (x ∷ xs) (suc p) zero senders other = refl
set_other (x ∷ xs) (suc p) (suc j) senders other = set_other xs p j senders (λ e. other (ap suc e))

put_by : (p : ℕ) (senders : List ℕ) (errors : List (List ℕ)) (j : ℕ) (now : List ℕ) → slice_get (slice_set errors p senders) j ≡ Some now → Put p senders errors j now
put_by p senders errors j now e = by_test (p == j) refl where
  by_test : (b : Bool) → (p == j) ≡ b → Put p senders errors j now
  by_test true is =
      let same = eqb-true p j is in let x = set_here errors p senders now (subst (λ k. slice_get (slice_set errors p senders) k ≡ Some now) (sym same) e) in changed x.0 same x.1 x.2
  by_test false is = stood (eqb-false p j is) (sym (set_other errors p j senders (eqb-false p j is)) ∙ e)

-- ---- what a label leaves

-- the lists stay where the errors do
stays : (semantics : Semantics) (s t : State) (old new : List (List ℕ)) → AreErrorsOf semantics s old → new ≡ old → Same s.channels t.channels → AreErrorsOf semantics t new
stays semantics s t old new h e same =
    subst (AreErrorsOf semantics t) (sym e)
    (record { counted = h.counted; stand = λ p senders is q. h.stand p senders is q ∙ bad_is q p s.channels ∙ sym (same q p) ∙ sym (bad_is q p t.channels) })

-- The list of p becomes another, and the errors of no other process change.
changes : (semantics : Semantics) (s t : State) (p : ℕ) (senders : List ℕ) (old new : List (List ℕ)) → AreErrorsOf semantics s old → new ≡ slice_set old p senders
    → ((was : List ℕ) → slice_get old p ≡ Some was → (q : ℕ) → count_by (λ r. r == q) senders ≡ bad q p t.channels)
    → ((q b : ℕ) → (p ≡ b → ⊥) → bad q b t.channels ≡ bad q b s.channels) → AreErrorsOf semantics t new
changes semantics s t p senders old new h e at elsewhere =
    subst (AreErrorsOf semantics t) (sym e) (record { counted = length-set old p senders ∙ h.counted; stand = λ j now is. by_place j now (put_by p senders old j now is) }) where
      by_place : (j : ℕ) (now : List ℕ) → Put p senders old j now → (q : ℕ) → count_by (λ r. r == q) now ≡ errors_from t.channels q j
      by_place j now (changed was same is put) q = ap (count_by (λ r. r == q)) put ∙ at was is q ∙ ap (λ k. bad q k t.channels) same ∙ sym (bad_is q j t.channels)
      by_place j now (stood not is) q = h.stand j now is q ∙ bad_is q j s.channels ∙ sym (elsewhere q j not) ∙ sym (bad_is q j t.channels)

-- ---- a change of one channel

pub quiet : (o : Option State) (t : State) (sends : List Outgoing) → silent o ≡ Some (t, sends) → o ≡ Some t
quiet o t sends e = let x = mapped_some (λ (u : State). let after : After = (u, []) in after) o (t, sends) e in x.1 ∙ ap Some (sym (ap (λ (a : After). a.0) x.2))

-- the channel that is changed by a step
record Turning (q p : ℕ) (f : Channel → Option Channel) (s t : State) : Type 0 where
  channels : List Channel
  next : t.channels ≡ channels
  turn : Turned q p f s.channels channels

turning : (semantics : Semantics) (q p : ℕ) (IsNew : Cell → Type 0) (f : Channel → Option Channel) (s t : State) (sends : List Outgoing) → Mild IsNew f → Fits semantics s
    → silent (channel_changed f s q p) ≡ Some (t, sends) → Turning q p f s t
turning semantics q p IsNew f s t sends mild fits e =
    let x = moved_by s t q p f (quiet (channel_changed f s q p) t sends e) in
    record { channels = x.channels; next = ap (λ (u : State). u.channels) x.next; turn = turned q p f (mild_ends IsNew f mild) s.channels x.channels fits.channels x.is }

-- a change that leaves the errors of each channel
flown_same : (semantics : Semantics) (q p : ℕ) (IsNew : Cell → Type 0) (f : Channel → Option Channel) (s t : State) (sends : List Outgoing) → Mild IsNew f
    → ((c d : Channel) → c.mark ≤ length c.cells → f c ≡ Some d → arrived_errors d ≡ arrived_errors c) → Fits semantics s
    → silent (channel_changed f s q p) ≡ Some (t, sends) → Same s.channels t.channels
flown_same semantics q p IsNew f s t sends mild leaves fits e =
    let x = turning semantics q p IsNew f s t sends mild fits e in
    let turn = x.turn in
    λ a b. ap (bad a b) x.next ∙ counted_same q p f s.channels x.channels turn (leaves turn.before turn.after turn.within turn.change) a b

-- ---- an arrival, and a reject

counted_more : (q a : ℕ) (senders : List ℕ) → count_by (λ r. r == a) (senders ++ q ∷ []) ≡ count_by (λ r. r == a) senders + (if q == a then 1 else 0)
counted_more q a senders = sum_by_push (λ r. if r == a then 1 else 0) senders q

counted_fewer : (q a : ℕ) (senders : List ℕ) → count_by (λ r. r == a) (q ∷ senders) ≡ (if q == a then 1 else 0) + count_by (λ r. r == a) senders
counted_fewer q a senders = sum_by-cons (λ r. if r == a then 1 else 0) q senders

added : (b : Bool) (k n m : ℕ) → k ≡ n → m + (if b then 0 else 0) ≡ n + (if b then 1 else 0) → k + (if b then 1 else 0) ≡ m
added true k n m h one = omega (arith, h, one)
added false k n m h one = omega (arith, h, one)

gone : (b : Bool) (k n m : ℕ) → (if b then 1 else 0) + k ≡ n → m + (if b then 1 else 0) ≡ n + (if b then 0 else 0) → k ≡ m
gone true k n m h one = omega (arith, h, one)
gone false k n m h one = omega (arith, h, one)

abbrev on : Bool → ℕ → ℕ → List (List ℕ) → List (List ℕ)
on b q p errors = if b then one_more q p errors else errors

arrive_kept : (semantics : Semantics) (s t : State) (q p : ℕ) (sends : List Outgoing) (old new : List (List ℕ)) → Fits semantics s → silent (channel_changed mark_raised s q p) ≡ Some (t, sends)
    → new ≡ on (arrives_bad s q p) q p old → AreErrorsOf semantics s old → AreErrorsOf semantics t new
arrive_kept semantics s t q p sends old new fits e r h =
    let x = turning semantics q p _ mark_raised s t sends arrival fits e in
    let turn = x.turn in
    let next : arrives_bad s q p ≡ has_bad_next turn.before = ap (λ o. is_yes (option_map has_bad_next o)) (channel_of_is q p s.channels ∙ turn.stood) in
    by_test (has_bad_next turn.before) x (r ∙ ap (λ b. on b q p old) next) (more_errors turn.before turn.after turn.change) where
      by_test : (b : Bool) (x : Turning q p mark_raised s t) → new ≡ on b q p old → arrived_errors x.turn.after ≡ arrived_errors x.turn.before + (if b then 1 else 0) → AreErrorsOf semantics t new
      by_test false x r more =
          stays semantics s t old new h r (λ a b. ap (bad a b) x.next ∙ counted_same q p mark_raised s.channels x.channels x.turn (more ∙ omega arith) a b)
      by_test true x r more =
          changes semantics s t p (unwrap_or (slice_get old p) [] ++ q ∷ []) old new h r
          (λ was is a.
          let before = h.stand p was is a ∙ bad_is a p s.channels in
          let one = counted_to q p mark_raised s.channels x.channels 0 1 x.turn (ap (λ n. n + 0) more ∙ omega arith) a in
          ap (λ o. count_by (λ r. r == a) (unwrap_or o [] ++ q ∷ [])) is
          ∙ counted_more q a was
          ∙ added (q == a) (count_by (λ r. r == a) was) (bad a p s.channels) (bad a p x.channels) before one
          ∙ ap (bad a p) (sym x.next))
          (λ a b other. ap (bad a b) x.next ∙ counted_elsewhere q p mark_raised s.channels x.channels x.turn a b other)

pub rejected_by : (s t : State) (q p i : ℕ) (sends : List Outgoing) → silent (rejected s q p i) ≡ Some (t, sends) → silent (channel_changed (rejected_at i) s q p) ≡ Some (t, sends)
rejected_by s t q p i sends e = by_test (is_live s p) e where
  by_test : (b : Bool) → silent (provided b s >>= λ live. channel_changed (rejected_at i) live q p) ≡ Some (t, sends) → silent (channel_changed (rejected_at i) s q p) ≡ Some (t, sends)
  by_test true h = h
  by_test false h = cc

reject_kept : (semantics : Semantics) (s t : State) (q p i : ℕ) (sends : List Outgoing) (old new : List (List ℕ)) → Fits semantics s → silent (rejected s q p i) ≡ Some (t, sends)
    → RejectsFirst s q p i old new → AreErrorsOf semantics s old → AreErrorsOf semantics t new
reject_kept semantics s t q p i sends old new fits e r h =
    let x = turning semantics q p _ (rejected_at i) s t sends (rejection i) fits (rejected_by s t q p i sends e) in
    let turn = x.turn in
    let fewer = fewer_errors i turn.before turn.after turn.change in
    changes semantics s t p r.others old new h r.moved
    (λ was is a.
    let before = h.stand p (q ∷ r.others) r.stood a ∙ bad_is a p s.channels in
    let one = counted_to q p (rejected_at i) s.channels x.channels 1 0 turn (fewer ∙ omega arith) a in
    gone (q == a) (count_by (λ r. r == a) r.others) (bad a p s.channels) (bad a p x.channels) (sym (counted_fewer q a r.others) ∙ before) one ∙ ap (bad a p) (sym x.next))
    (λ a b other. ap (bad a b) x.next ∙ counted_elsewhere q p (rejected_at i) s.channels x.channels turn a b other)

-- ---- the other labels

channels_stay : (s t : State) → t.channels ≡ s.channels → Same s.channels t.channels
channels_stay s t e = λ a b. ap (bad a b) e

left_alone : (b : Bool) (s t u : State) (sends : List Outgoing) → u.channels ≡ s.channels → silent (provided b u) ≡ Some (t, sends) → Same s.channels t.channels
left_alone b s t u sends same e = channels_stay s t (ap (λ (x : State). x.channels) (sym (cond_some b u t (quiet (provided b u) t sends e)).1) ∙ same)

abbrev with_cut : State → ℕ → ℕ → State
with_cut s p n = record s { cuts = slice_set s.cuts p (Some n) }

act_same : (semantics : Semantics) (s t : State) (p a : ℕ) (choices : List ℤ) (sends : List Outgoing) → Fits semantics s → Acted semantics s p a choices t sends → Same s.channels t.channels
act_same semantics s t p a choices sends fits x =
    let done = x.done in
    let taken = taken_same s p x.action.guard done.taken fits.channels x.ready done.took in
    let sent = sent_same p done.r.sends done.taken done.channels (taken_each IsFitChannel p x.action.guard taken_fits s.channels done.taken fits.channels done.took) done.sent in
    λ a b. ap (λ (u : State). bad a b u.channels) done.next ∙ sent a b ∙ taken a b

fall_same : (semantics : Semantics) (s t : State) (f : Falling) (p : ℕ) (rs : List ℕ) (sends : List Outgoing) → Fits semantics s → s.falling ≡ Some f → silent (fallen s f p rs) ≡ Some (t, sends)
    → Same s.channels t.channels
fall_same semantics s t f p rs sends fits due e =
    let x = fallen_by s t f p rs (quiet (fallen s f p rs) t sends e) in
    let n = length semantics.processes in
    let apart = apart_same s.channels (channels_among n) (fits.entries.senders, fits.entries.receivers) (among_apart n) in
    let left = fallen_same p rs s.channels x.channels apart fits.channels (flies_from s f p rs (some_fits s f s.falling due fits.falling) x.process x.receivers) x.back in
    λ a b. ap (λ (u : State). bad a b u.channels) x.next ∙ left a b

settled_kept : (semantics : Semantics) (s t : State) (l : Label) (sends : List Outgoing) (old new : List (List ℕ)) → Fits semantics s → settled_step semantics s l ≡ Some (t, sends)
    → Rejects (s, l) old new → AreErrorsOf semantics s old → AreErrorsOf semantics t new
settled_kept semantics s t (label.Tick p c) sends old new fits e r h =
    stays semantics s t old new h r (channels_stay s t (ap (λ (u : State). u.channels) (sym (read_by s t p c (quiet (ticked s p c) t sends e)).next)))
settled_kept semantics s t (label.Reject q p i) sends old new fits e r h = reject_kept semantics s t q p i sends old new fits e r h
settled_kept semantics s t (label.Act p a choices) sends old new fits e r h = stays semantics s t old new h r (act_same semantics s t p a choices sends fits (acted_by semantics s t p a choices sends e))
settled_kept semantics s t (label.Idle p) sends old new fits e r h = stays semantics s t old new h r (left_alone (is_idle semantics s p) s t s sends refl e)
settled_kept semantics s t (label.Flood p) sends old new fits e r h = stays semantics s t old new h r (left_alone (is_flooded semantics s p) s t s sends refl e)
settled_kept semantics s t (label.Arrive q p) sends old new fits e r h = arrive_kept semantics s t q p sends old new fits e r h
settled_kept semantics s t (label.Lose q p i) sends old new fits e r h =
    stays semantics s t old new h r (flown_same semantics q p _ (on_flight (lost_at i)) s t sends (loss i) (flight_leaves (lost_at i)) fits e)
settled_kept semantics s t (label.Copy q p i) sends old new fits e r h =
    stays semantics s t old new h r
    (flown_same semantics q p _ (where_room (on_flight (copied_at i))) s t sends (copy i)
    (λ c d within done. flight_leaves (copied_at i) c d within (roomy_leaves (on_flight (copied_at i)) c d done)) fits e)
settled_kept semantics s t (label.Move q p i j) sends old new fits e r h =
    stays semantics s t old new h r (flown_same semantics q p _ (on_flight (moved_to i j)) s t sends (shift i j) (flight_leaves (moved_to i j)) fits e)
settled_kept semantics s t (label.Damage q p i bytes) sends old new fits e r h =
    let x = meaning semantics q p bytes in
    stays semantics s t old new h r (flown_same semantics q p _ (on_flight (changed_to i x)) s t sends (damage i x) (flight_leaves (changed_to i x)) fits e)
settled_kept semantics s t (label.Forge q p bytes) sends old new fits e r h =
    let x = meaning semantics q p bytes in
    stays semantics s t old new h r (flown_same semantics q p _ (appended x) s t sends (addition x) (end_leaves x) fits e)
settled_kept semantics s t (label.Cut p n) sends old new fits e r h =
    let x = mapped_some (λ (was : Option ℕ). with_cut s p n) (slice_get s.cuts p) t (quiet (cut_off s p n) t sends e) in
    stays semantics s t old new h r (channels_stay s t (ap (λ (u : State). u.channels) x.2))
settled_kept semantics s t (label.Stop p rs) sends old new fits e r h =
    stays semantics s t old new h r (left_alone (is_live s p && is_zero (slice_get s.cuts p) && is_empty rs) s t (put_down s p) sends refl e)
settled_kept semantics s t (label.Down p) sends old new fits e r h = stays semantics s t old new h r (left_alone (is_yes (slice_get s.down p)) s t s sends refl e)
settled_kept semantics s t label.Void sends old new fits e r h = stays semantics s t old new h r (left_alone true s t s sends refl e)

falling_kept : (semantics : Semantics) (s t : State) (f : Falling) (l : Label) (sends : List Outgoing) (old new : List (List ℕ)) → Fits semantics s → s.falling ≡ Some f
    → falling_step s f l ≡ Some (t, sends) → Rejects (s, l) old new → AreErrorsOf semantics s old → AreErrorsOf semantics t new
falling_kept semantics s t f (label.Stop p rs) sends old new fits due e r h = stays semantics s t old new h r (fall_same semantics s t f p rs sends fits due e)
falling_kept semantics s t f _ sends old new fits due e r h = cc

-- The lists say which errors have arrived, behind each step too.
pub errors_kept : (semantics : Semantics) (s t : State) (l : Label) (sends : List Outgoing) (old new : List (List ℕ)) → Fits semantics s → step semantics s l ≡ Some (t, sends)
    → Rejects (s, l) old new → AreErrorsOf semantics s old → AreErrorsOf semantics t new
errors_kept semantics s t l sends old new fits e r h = by_row (row_of semantics s l (t, sends) e) where
  by_row : Rows semantics s l (t, sends) → AreErrorsOf semantics t new
  by_row (settled is done) = settled_kept semantics s t l sends old new fits done r h
  by_row (falls f is done) = falling_kept semantics s t f l sends old new fits is done r h

-- the moments behind a first step
abbrev behind : Semantics → List Label → Option After → List Moment
behind semantics ls o = unwrap_or (option_map (λ after. moments semantics after.0 ls) o) []

-- and behind each run
pub all_errors_kept : (semantics : Semantics) (s t : State) (labels : List Label) (old new : List (List ℕ)) → BodiesKeepRanges semantics → Fits semantics s → state_after semantics s labels ≡ Some t
    → AllReject (moments semantics s labels) old new → AreErrorsOf semantics s old → AreErrorsOf semantics t new
all_errors_kept semantics s t [] old new keep fits e r h =
    let same : s ≡ t = cc in subst (AreErrorsOf semantics t) (sym r) (subst (λ u. AreErrorsOf semantics u old) same h)
all_errors_kept semantics s t (l ∷ ls) old new keep fits e r h =
    option_and_then_some _ (step semantics s l) t e (λ after is rest.
    all_errors_kept semantics after.0 t ls r.0 new keep (steps_keep semantics s after.0 l after.1 keep fits is).fits rest (subst (λ (ms : List Moment). AllReject ms r.0 new) (ap (behind semantics ls) is) r.2)
    (errors_kept semantics s after.0 l after.1 old r.0 fits is r.1 h))

-- ---- the opening

none_there : (q p : ℕ) (b : Bool) → Each (λ (c : Channel). arrived_errors c ≡ 0) (if b then [] else empty_channel q p ∷ [])
none_there q p true = tt
none_there q p false = (refl, tt)

none_among : (n : ℕ) → Each (λ (c : Channel). arrived_errors c ≡ 0) (channels_among n)
none_among n =
    each_flat (λ (c : Channel). arrived_errors c ≡ 0) _ (range_with_len 0 n) (λ q.
    each_flat (λ (c : Channel). arrived_errors c ≡ 0) (channel_between q) (range_with_len 0 n) (λ p. none_there q p (q == p)))

none_bad : (n q p : ℕ) → bad q p (channels_among n) ≡ 0
none_bad n q p = by_found (found q p (channels_among n)) refl where
  by_found : (o : Option Channel) → found q p (channels_among n) ≡ o → bad_of o ≡ 0
  by_found None is = refl
  by_found (Some c) is = (found_one (λ (x : Channel). arrived_errors x ≡ 0) q p (channels_among n) c (none_among n) is).0

-- At the opening no error has arrived.
pub errors_opened : (semantics : Semantics) (inputs : Inputs) → AreErrorsOf semantics (opening_state semantics inputs) (opening_errors semantics)
errors_opened semantics inputs =
    let n = length semantics.processes in
    record {
      counted = length-replicate n [];
      stand = λ p senders is q.
          let none : senders ≡ [] = each_at (λ (xs : List ℕ). xs ≡ []) (replicate n []) p senders (each_replicate (λ (xs : List ℕ). xs ≡ []) n [] refl) is in
          ap (count_by (λ r. r == q)) none ∙ sym (none_bad n q p) ∙ sym (bad_is q p (channels_among n));
    }
