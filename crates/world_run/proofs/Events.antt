-- Events that are no turns.
use Rattle.std.proofs.Common.{◌≡◌, ◌+◌, ◌<◌, ◌≤◌, ◌∙◌, ℕ, Bool, true, false, nat_lt, if◌then◌else◌, List, [], ◌∷◌, ◌++◌, length, slice_set, refl, ap, sym, subst, Some, None, is_some, arith}
use Rattle.std.proofs.lemmas.Bool.Decides.{nat_tests}
use Rattle.tap_base.proofs.ListFacts.{each_weaker, element_at}
use Rattle.tap_exec.specs.declared.running.Outgoing.{Outgoing}
use Rattle.tap_base.specs.declared.system.System.{System}
use Rattle.std.proofs.lemmas.List.{length-map}
use Rattle.tap_exec.specs.Semantics.{Semantics, messages_of, process_semantics, semantics_of}
use Rattle.byte_meaning.specs.declared.cell.Cell.{Cell}
use Rattle.byte_meaning.specs.Reading.{meaning}
use Rattle.abstract_run.specs.declared.label.Event.{Event}
use Rattle.abstract_run.specs.declared.label.Event.TheVariants as event
use Rattle.abstract_run.specs.declared.label.Label.{Label}
use Rattle.abstract_run.specs.declared.label.Label.TheVariants as label
use Rattle.abstract_run.specs.declared.state.Channel.{Channel}
use Rattle.abstract_run.specs.declared.state.State.{State}
use Rattle.abstract_run.specs.Answers.{IsSegment, or_void}
use Rattle.abstract_run.specs.Channels.{appended, most_cells, on_channel}
use Rattle.abstract_run.specs.Progress.{IsPossible}
use Rattle.abstract_run.specs.Step.{step}
use Rattle.abstract_run.proofs.GoesOn.{room_by}
use Rattle.abstract_run.proofs.OnChannel.{on_channel_is}
use Rattle.abstract_run.proofs.Roomy.{CanChange, changed_can, joined_among, joined_same}
use Rattle.exact_choice.specs.Rejects.{Rejects, arrives_bad, one_more}
use Rattle.run_text.specs.ScheduleText.{AreTwo}
use Rattle.world_run.specs.declared.course.Course.{Course}
use Rattle.world_run.specs.declared.deeds.Deeds.{Deeds}
use Rattle.world_run.specs.Served.{Happened, IsCourse, IsSteady, NamesProcesses, TookPlace}
use Rattle.world_run.specs.inner.Serving.{DidOne, IsPlain, label_of}
use Rattle.world_run.proofs.Leaves.{IsNoAct}
use Rattle.world_run.proofs.OneLabel.{course_after, did}
use Rattle.world_run.proofs.Turns.{one_settled, served}

-- ---- a label, or nothing

pub possible_is : (m : Semantics) (s : State) (l : Label) (after : State × List Outgoing) → step m s l ≡ Some after → or_void m s l ≡ l
possible_is m s l after e = rw e refl

pub void_is : (m : Semantics) (s : State) (l : Label) → step m s l ≡ None → or_void m s l ≡ label.Void
void_is m s l e = rw e refl

-- the label was done
pub done_or_void : (m : Semantics) (old new : Course) (l : Label) (t : State) (sends : List Outgoing) (before after : Deeds) → step m old.state l ≡ Some (t, sends) → Happened m (l ∷ []) old new before after
    → Happened m (or_void m old.state l ∷ []) old new before after
done_or_void m old new l t sends before after ran d = subst (λ k. Happened m (k ∷ []) old new before after) (sym (possible_is m old.state l (t, sends) ran)) d

-- nothing was
pub void_or_done : (m : Semantics) (old middle new : Course) (l : Label) (before between after : Deeds) → step m old.state l ≡ None → middle ≡ old → between ≡ before
    → Happened m (label.Void ∷ []) middle new between after → Happened m (or_void m old.state l ∷ []) old new before after
void_or_done m old middle new l before between after none same text d =
    subst (λ k. Happened m (k ∷ []) old new before after) (sym (void_is m old.state l none))
    (subst (λ c. Happened m (label.Void ∷ []) c new before after) same (subst (λ b. Happened m (label.Void ∷ []) middle new b after) text d))

or_no_act : (m : Semantics) (s : State) (l : Label) → IsNoAct l → IsNoAct (or_void m s l)
or_no_act m s l h = by_test (is_some (step m s l)) where
  by_test : (b : Bool) → IsNoAct (if b then l else label.Void)
  by_test true = h
  by_test false = tt

pub or_settled : (m : Semantics) (old new : Course) (l : Label) (before after : Deeds) → IsNoAct l → old.state.falling ≡ None → Happened m (or_void m old.state l ∷ []) old new before after → new.state.falling ≡ None
or_settled m old new l before after other settled d = one_settled m old new (or_void m old.state l) before after d (or_no_act m old.state l other) settled

-- ---- arrivals

-- an error that arrived was put at the end, and nothing else was
pub arrived_rejects : (s : State) (q p : ℕ) (old new : List (List ℕ)) (bad : Bool) → bad ≡ arrives_bad s q p → new ≡ (if bad then one_more q p old else old) → Rejects (s, label.Arrive q p) old new
arrived_rejects s q p old new bad is e = e ∙ ap (λ b. if b then one_more q p old else old) is

-- the errors were changed behind the label
pub with_errors : (m : Semantics) (old new : Course) (l : Label) (errors : List (List ℕ)) (before after : Deeds) → DidOne m l old new before after → DidOne m l old (record new { errors = errors }) before after
with_errors m old new l errors before after d = record { sends = d.sends; ran = d.ran; fits = d.fits; cells = d.cells; few = d.few; recorded = d.recorded }

pub arrival : (m : Semantics) (old new : Course) (q p : ℕ) (bad : Bool) (before after : Deeds) → q < length m.processes → p < length m.processes → bad ≡ arrives_bad old.state q p
    → DidOne m (label.Arrive q p) old new before after → new.turnstiles ≡ old.turnstiles → new.generators ≡ old.generators → new.errors ≡ (if bad then one_more q p old.errors else old.errors)
    → Happened m (or_void m old.state (label.Arrive q p) ∷ []) old new before after
arrival m old new q p bad before after peer there is d cursors generators errors =
    done_or_void m old new (label.Arrive q p) new.state d.sends before after d.ran
    (did m old new (label.Arrive q p) before after d cursors generators (arrived_rejects old.state q p old.errors new.errors bad is errors) (peer, there))

pub arrival_course : (m : Semantics) (old new : Course) (q p : ℕ) (bad : Bool) (before after : Deeds) → IsCourse m old → bad ≡ arrives_bad old.state q p
    → DidOne m (label.Arrive q p) old new before after → new.turnstiles ≡ old.turnstiles → new.generators ≡ old.generators → new.errors ≡ (if bad then one_more q p old.errors else old.errors) → IsCourse m new
arrival_course m old new q p bad before after whole is d cursors generators errors =
    course_after m old new (label.Arrive q p) before after whole d cursors generators (arrived_rejects old.state q p old.errors new.errors bad is errors)

-- ---- forged datagrams, and cuts

goes_in : (x : Cell) (c : Channel) → length c.cells + 1 ≤ most_cells → CanChange (appended x) c
goes_in x c h = let test : nat_lt (length c.cells) most_cells ≡ true = room (length c.cells) h in (record c { cells = c.cells ++ x ∷ [] }, rw test refl) where
  room : (k : ℕ) → k + 1 ≤ most_cells → nat_lt k most_cells ≡ true
  room k h = grind (arith, nat_tests)

pub forge_possible : (m : Semantics) (course : Course) (q p : ℕ) (bytes : List ℕ) → IsSteady m course → course.cells ≤ 100000 → AreTwo (length m.processes) q p → IsPossible m course.state (label.Forge q p bytes)
forge_possible m course q p bytes steady room two =
    let s = course.state in
    let x = meaning m q p bytes in
    let fits = steady.whole.fits in
    let roomy = room_by s.channels 1 (let cells = steady.whole.cells in omega (arith, cells, room)) in
    let joined = joined_same q p _ s.channels (fits.entries.senders, fits.entries.receivers) (joined_among q p (length m.processes) two.2 two.0 two.1) in
    let goes = changed_can q p (appended x) s.channels joined (each_weaker (λ c. length c.cells + 1 ≤ most_cells) (CanChange (appended x)) s.channels (λ c h. goes_in x c h) roomy) in
    let changes : on_channel q p (appended x) s.channels ≡ Some goes.0 = on_channel_is q p (appended x) s.channels ∙ goes.1 in
    let settled = steady.settled in
    record { next = record s { channels = goes.0 }; sends = []; is = rw (settled, changes) refl }

pub cut_can : (m : Semantics) (course : Course) (p n : ℕ) → IsSteady m course → p < length m.processes → IsPossible m course.state (label.Cut p n)
cut_can m course p n steady there =
    let s = course.state in
    let old = element_at s.cuts p (let counted = steady.whole.fits.entries.cuts in omega (arith, there, counted)) in
    let settled = steady.settled in
    let is = old.1 in
    record { next = record s { cuts = slice_set s.cuts p (Some n) }; sends = []; is = rw (settled, is) refl }

-- ---- the segments

-- an event that is neither a turn nor an arrival
abbrev pub IsFault : Event → Type 0
IsFault (event.Turn p c) = ⊥
IsFault (event.Arrive q p) = ⊥
IsFault _ = Unit {0}

pub plain_label : (e : Event) → IsFault e → IsPlain (label_of e)
plain_label (event.Turn p c) h = absurd h
plain_label (event.Arrive q p) h = absurd h
plain_label (event.Lose q p i) h = tt
plain_label (event.Copy q p i) h = tt
plain_label (event.Move q p i j) h = tt
plain_label (event.Damage q p i bytes) h = tt
plain_label (event.Forge q p bytes) h = tt
plain_label (event.Cut p n) h = tt

no_act : (e : Event) → IsNoAct (label_of e)
no_act (event.Turn p c) = tt
no_act (event.Arrive q p) = tt
no_act (event.Lose q p i) = tt
no_act (event.Copy q p i) = tt
no_act (event.Move q p i j) = tt
no_act (event.Damage q p i bytes) = tt
no_act (event.Forge q p bytes) = tt
no_act (event.Cut p n) = tt

segment : (m : Semantics) (course : Course) (e : Event) → IsFault e → IsSteady m course → course.cells ≤ 100000 → NamesProcesses (length m.processes) e
    → IsSegment m course.state e (or_void m course.state (label_of e) ∷ [])
segment m course (event.Turn p c) h steady room named = absurd h
segment m course (event.Arrive q p) h steady room named = absurd h
segment m course (event.Lose q p i) h steady room named = refl
segment m course (event.Copy q p i) h steady room named = refl
segment m course (event.Move q p i j) h steady room named = refl
segment m course (event.Damage q p i bytes) h steady room named = refl
segment m course (event.Forge q p bytes) h steady room named =
    let x = forge_possible m course q p bytes steady room named.0 in ap (λ (l : Label). l ∷ []) (possible_is m course.state (label.Forge q p bytes) (x.next, x.sends) x.is)
segment m course (event.Cut p n) h steady room named =
    let x = cut_can m course p n steady named in ap (λ (l : Label). l ∷ []) (possible_is m course.state (label.Cut p n) (x.next, x.sends) x.is)

pub fault_served : (m : Semantics) (old new : Course) (e : Event) (l : Label) (before after : Deeds) → IsFault e → l ≡ label_of e → IsSteady m old → old.cells ≤ 100000 → NamesProcesses (length m.processes) e
    → Happened m (or_void m old.state l ∷ []) old new before after → TookPlace m e old new before after
fault_served m old new e l before after h is steady room named d =
    let done = subst (λ k. Happened m (or_void m old.state k ∷ []) old new before after) is d in
    served m e old new (or_void m old.state (label_of e) ∷ []) before after (segment m old e h steady room named) done (or_settled m old new (label_of e) before after (no_act e) steady.settled done)

pub fault_steady : (m : Semantics) (old new : Course) (e : Event) (l : Label) (before after : Deeds) → l ≡ label_of e → IsSteady m old → IsCourse m new
    → Happened m (or_void m old.state l ∷ []) old new before after → IsSteady m new
fault_steady m old new e l before after is steady whole d =
    let done = subst (λ k. Happened m (or_void m old.state k ∷ []) old new before after) is d in
    record { whole = whole; settled = or_settled m old new (label_of e) before after (no_act e) steady.settled done }

pub arrive_served : (m : Semantics) (old new : Course) (q p : ℕ) (before after : Deeds) → IsSteady m old → Happened m (or_void m old.state (label.Arrive q p) ∷ []) old new before after
    → TookPlace m (event.Arrive q p) old new before after
arrive_served m old new q p before after steady d =
    served m (event.Arrive q p) old new (or_void m old.state (label.Arrive q p) ∷ []) before after refl d (or_settled m old new (label.Arrive q p) before after tt steady.settled d)

pub arrive_steady : (m : Semantics) (old new : Course) (q p : ℕ) (before after : Deeds) → IsSteady m old → IsCourse m new → Happened m (or_void m old.state (label.Arrive q p) ∷ []) old new before after → IsSteady m new
arrive_steady m old new q p before after steady whole d = record { whole = whole; settled = or_settled m old new (label.Arrive q p) before after tt steady.settled d }

-- two processes of a system
pub two_there : (system : System) (q p : ℕ) → AreTwo (length system.processes) q p → AreTwo (length (semantics_of system).processes) q p
two_there system q p two = subst (λ n. AreTwo n q p) (sym (length-map system.processes (process_semantics (messages_of system)))) two

pub is_fault : (e : Event) → ((p c : ℕ) → e ≡ event.Turn p c → ⊥) → ((q p : ℕ) → e ≡ event.Arrive q p → ⊥) → IsFault e
is_fault (event.Turn p c) no_turn no_arrival = absurd (no_turn p c refl)
is_fault (event.Arrive q p) no_turn no_arrival = absurd (no_arrival q p refl)
is_fault (event.Lose q p i) no_turn no_arrival = tt
is_fault (event.Copy q p i) no_turn no_arrival = tt
is_fault (event.Move q p i j) no_turn no_arrival = tt
is_fault (event.Damage q p i bytes) no_turn no_arrival = tt
is_fault (event.Forge q p bytes) no_turn no_arrival = tt
is_fault (event.Cut p n) no_turn no_arrival = tt
