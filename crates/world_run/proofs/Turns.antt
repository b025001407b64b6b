-- A turn of a process, put together of its labels.
use Rattle.std.proofs.Common.{◌≡◌, ◌+◌, ◌<◌, ◌≤◌, ◌∙◌, ◌^◌, ℕ, ℤ, true, false, List, [], ◌∷◌, ◌++◌, length, slice_get, refl, ap, sym, subst, Option, Some, None, Result, Ok, Err, OnOk, inl, arith}
use Rattle.tap_base.proofs.ListFacts.{element_at}
use Rattle.guard_scheduler.specs.Cursor.{Cursor}
use Rattle.tap_exec.specs.Semantics.{Semantics}
use Rattle.abstract_run.specs.declared.label.Event.{Event}
use Rattle.abstract_run.specs.declared.label.Event.TheVariants as event
use Rattle.abstract_run.specs.declared.label.Label.{Label}
use Rattle.abstract_run.specs.declared.label.Label.TheVariants as label
use Rattle.abstract_run.specs.declared.state.Falling.{Falling}
use Rattle.abstract_run.specs.declared.state.State.{State}
use Rattle.abstract_run.specs.Answers.{EndsTurn, IsSegment, arrived, cut_off, down, fell, live, most_waiting, ran}
use Rattle.abstract_run.specs.Progress.{IsPossible}
use Rattle.abstract_run.specs.Run.{state_after}
use Rattle.abstract_run.specs.Enabled.{is_enabled}
use Rattle.abstract_run.specs.Step.{is_live, is_zero, step}
use Rattle.abstract_run.proofs.GoesOn.{live_process, ticks_go_on}
use Rattle.abstract_run.proofs.Kept.{some_fits}
use Rattle.abstract_run.proofs.Ticked.{Read}
use Rattle.exact_choice.specs.Choice.{AllChoose, ChoosesAct}
use Rattle.rand_pcg.specs.Lcg.{Lcg}
use Rattle.exact_choice.specs.Draws.{AllDraw, DrawsAct}
use Rattle.exact_choice.specs.Moments.{moments}
use Rattle.exact_choice.specs.Rejects.{AllReject}
use Rattle.exact_choice.proofs.RejectsGoOn.{none_waits}
use Rattle.world_run.specs.declared.course.Course.{Course}
use Rattle.world_run.specs.declared.deeds.Deeds.{Deeds}
use Rattle.world_run.specs.Served.{Happened, IsCourse, IsSteady, TookPlace, Recorded}
use Rattle.world_run.specs.inner.Serving.{Chose, DidAct, DidOne, Ended, Rejected, fall_labels}
use Rattle.world_run.proofs.Leaves.{IsNoAct, fall_of, flood_possible, idle_possible, live_by, one_step, other_cut, settled_after, stop_possible, tick_reads, zero_cut}
use Rattle.world_run.proofs.OneLabel.{course_after, did, did_more}
use Rattle.world_run.proofs.Rejecting.{clean}

pub on_ok : {T E : Type 0} {P Q : Type 0} (r : Result T E) → (P → Q) → OnOk r P → OnOk r Q
on_ok (Ok x) f h = f h
on_ok (Err e) f h = tt

pub on_both : {T E : Type 0} {P Q R : Type 0} (r : Result T E) → (P → Q → R) → OnOk r P → OnOk r Q → OnOk r R
on_both (Ok x) f h k = f h k
on_both (Err e) f h k = tt

-- ---- one label

pub one_settled : (m : Semantics) (old new : Course) (l : Label) (before after : Deeds) → Happened m (l ∷ []) old new before after → IsNoAct l → old.state.falling ≡ None → new.state.falling ≡ None
one_settled m old new l before after d other settled = let x = one_step m old.state new.state l d.ran in settled_after m old.state new.state l x.0 other settled x.1

pub one_steady : (m : Semantics) (old new : Course) (l : Label) (before after : Deeds) → Happened m (l ∷ []) old new before after → IsNoAct l → IsSteady m old → IsCourse m new → IsSteady m new
one_steady m old new l before after d other steady whole = record { whole = whole; settled = one_settled m old new l before after d other steady.settled }

pub served : (m : Semantics) (e : Event) (old new : Course) (labels : List Label) (before after : Deeds) → IsSegment m old.state e labels → Happened m labels old new before after → new.state.falling ≡ None
    → TookPlace m e old new before after
served m e old new labels before after segment d settled = record { labels = labels; serves = record { segment = segment; ran = d.ran; settled = settled }; happened = d }

-- ---- a process that is down

pub down_served : (m : Semantics) (old new : Course) (p c : ℕ) (before after : Deeds) → IsSteady m old → slice_get old.state.down p ≡ Some true → Happened m (label.Down p ∷ []) old new before after
    → TookPlace m (event.Turn p c) old new before after
down_served m old new p c before after steady is d = served m (event.Turn p c) old new (label.Down p ∷ []) before after (down is) d (one_settled m old new (label.Down p) before after d tt steady.settled)

-- ---- a reading

pub reading : (m : Semantics) (old new : Course) (p c : ℕ) (before after : Deeds) → old.state.falling ≡ None → Happened m (label.Tick p c ∷ []) old new before after → Read old.state p c new.state
reading m old new p c before after settled d = let x = one_step m old.state new.state (label.Tick p c) d.ran in tick_reads m old.state new.state p c x.0 settled x.1

pub live_after : (m : Semantics) (old new : Course) (p c : ℕ) (before after : Deeds) → old.state.falling ≡ None → slice_get old.state.down p ≡ Some false → Happened m (label.Tick p c ∷ []) old new before after
    → is_live new.state p ≡ true
live_after m old new p c before after settled up d =
    ap (λ (s : State). is_live s p) (sym (reading m old new p c before after settled d).next) ∙ live_by old.state p up

pub tick_possible : (m : Semantics) (course : Course) (p c : ℕ) → IsSteady m course → slice_get course.state.down p ≡ Some false → IsPossible m course.state (label.Tick p c)
tick_possible m course p c steady up = ticks_go_on m course.state p c steady.whole.fits steady.settled (live_by course.state p up)

-- ---- a process that is cut off

pub cut_possible : (m : Semantics) (old new : Course) (p c : ℕ) (receivers : List ℕ) (before after : Deeds) → IsSteady m old → slice_get old.state.down p ≡ Some false → is_zero (slice_get old.state.cuts p) ≡ true
    → Happened m (label.Tick p c ∷ []) old new before after → receivers ≡ [] → IsPossible m new.state (label.Stop p receivers)
cut_possible m old new p c receivers before after steady up cut d none =
    let r = reading m old new p c before after steady.settled d in
    subst (λ rs. IsPossible m new.state (label.Stop p rs)) (sym none)
    (stop_possible m new.state p (one_settled m old new (label.Tick p c) before after d tt steady.settled) (live_after m old new p c before after steady.settled up d)
    (ap (λ (s : State). is_zero (slice_get s.cuts p)) (sym r.next) ∙ cut))

pub cut_served : (m : Semantics) (a b c : Course) (p r : ℕ) (receivers : List ℕ) (before middle after : Deeds) → IsSteady m a → slice_get a.state.down p ≡ Some false → is_zero (slice_get a.state.cuts p) ≡ true → receivers ≡ []
    → Happened m (label.Tick p r ∷ []) a b before middle → Happened m (label.Stop p receivers ∷ []) b c middle after → TookPlace m (event.Turn p r) a c before after
cut_served m a b c p r receivers before middle after steady up cut none d e =
    let stop = subst (λ rs. Happened m (label.Stop p rs ∷ []) b c middle after) none e in
    served m (event.Turn p r) a c (label.Tick p r ∷ label.Stop p [] ∷ []) before after (cut_off up (zero_cut (slice_get a.state.cuts p) cut) (inl refl))
    (did_more m a b c (label.Tick p r ∷ []) (label.Stop p [] ∷ []) before middle after d stop)
    (one_settled m b c (label.Stop p []) middle after stop tt (one_settled m a b (label.Tick p r) before middle d tt steady.settled))

-- ---- a live process

pub live_served : (m : Semantics) (a b c d : Course) (p r n : ℕ) (t0 t1 t2 t3 : Deeds) → IsSteady m a → slice_get a.state.down p ≡ Some false → p < length m.processes → is_zero (slice_get a.state.cuts p) ≡ false
    → Happened m (label.Tick p r ∷ []) a b t0 t1 → Rejected m p n b c t1 t2 → n ≤ most_waiting → (n < most_waiting → slice_get c.errors p ≡ Some []) → Ended m p n c d t2 t3 → TookPlace m (event.Turn p r) a d t0 t3
live_served m a b c d p r n t0 t1 t2 t3 steady up there uncut tick rejected most left ended =
    let cut = element_at a.state.cuts p (let counted = steady.whole.fits.entries.cuts in omega (arith, there, counted)) in
    let read = reading m a b p r t0 t1 steady.settled tick in
    let front = label.Tick p r ∷ rejected.labels in
    let both = did_more m a b c (label.Tick p r ∷ []) rejected.labels t0 t1 t2 tick rejected.did in
    let same : arrived b.state p ≡ arrived a.state p = ap (λ (s : State). arrived s p) (sym read.next) in
    served m (event.Turn p r) a d (front ++ ended.labels) t0 t3
    (live up cut.1 (other_cut (slice_get a.state.cuts p) cut.0 cut.1 uncut) (record {
      rejects = rejected.labels;
      of_process = rejected.of_process;
      at_most = let counted = rejected.counted in omega (arith, counted, most);
      middle = c.state;
      rejected = both.ran;
      clean = λ few. clean m b c p n t1 t2 rejected most left (omega (arith, few, same));
      last = ended.labels;
      ends = subst (λ k. EndsTurn p k ended.labels) (sym rejected.counted) ended.ends;
      whole = refl;
    }))
    (did_more m a c d front ended.labels t0 t2 t3 both ended.did) ended.settled

-- ---- the end of a turn

-- an action that was chosen is enabled
pub chosen_enabled : (m : Semantics) (c v : Course) (p a : ℕ) → v.state ≡ c.state → Chose m c.state p c.turnstiles (Some a) v.turnstiles → is_enabled m v.state p a ≡ true
chosen_enabled m c v p a same chose = subst (λ s. is_enabled m s p a ≡ true) (sym same) chose.next.first.wanted

-- an action that was chosen was done
one_acted : (m : Semantics) (c v d : Course) (l : Label) (before after : Deeds) → v.state ≡ c.state → v.cells ≡ c.cells → DidOne m l v d before after → DidOne m l c d before after
one_acted m c v d l before after state cells x = record {
  sends = x.sends;
  ran = subst (λ s. step m s l ≡ Some (d.state, x.sends)) state x.ran;
  fits = x.fits;
  cells = x.cells;
  few = let few = x.few in omega (arith, few, cells);
  recorded = subst (λ s. Recorded m s (l ∷ []) before after) state x.recorded;
}

acted : (m : Semantics) (c v d : Course) (p a : ℕ) (before after : Deeds) → v.state ≡ c.state → v.cells ≡ c.cells → v.generators ≡ c.generators → DidAct m p a v d before after → DidAct m p a c d before after
acted m c v d p a before after state cells generators x = record {
  choices = x.choices;
  drawn = subst (λ s. DrawsAct m s p a x.choices c.generators d.generators) state (subst (λ (gs : List Lcg). DrawsAct m v.state p a x.choices gs d.generators) generators x.drawn);
  sized = x.sized;
  did = one_acted m c v d (label.Act p a x.choices) before after state cells x.did;
}

-- what the choice of an action leaves, and the action behind it
pub record Behind (m : Semantics) (c v d : Course) (p a : ℕ) (before after : Deeds) : Type 0 where
  pub state : v.state ≡ c.state
  pub cells : v.cells ≡ c.cells
  pub generators : v.generators ≡ c.generators
  pub errors : v.errors ≡ c.errors
  pub chose : Chose m c.state p c.turnstiles (Some a) v.turnstiles
  pub act : DidAct m p a v d before after
  pub turnstiles : d.turnstiles ≡ v.turnstiles
  pub left : d.errors ≡ v.errors

module _ (m : Semantics) (c v d : Course) (p a : ℕ) (before after : Deeds) (x : Behind m c v d p a before after) where
  its_act : DidAct m p a c d before after
  its_act = acted m c v d p a before after x.state x.cells x.generators x.act

  its_choice : ChoosesAct m c.state p a c.turnstiles d.turnstiles
  its_choice = subst (λ (cs : List Cursor). ChoosesAct m c.state p a c.turnstiles cs) (sym x.turnstiles) x.chose

  pub act_course : IsCourse m c → IsCourse m d
  act_course whole = course_after m c d (label.Act p a its_act.choices) before after whole its_act.did its_choice its_act.drawn (x.left ∙ x.errors)

  act_did : p < length m.processes → a < 2 ^ 32 → Happened m (label.Act p a its_act.choices ∷ []) c d before after
  act_did there short = did m c d (label.Act p a its_act.choices) before after its_act.did its_choice its_act.drawn (x.left ∙ x.errors) (there, short, its_act.sized)

act_ends : (m : Semantics) (c v d e : Course) (p a n : ℕ) (before middle after : Deeds) → IsSteady m c → Behind m c v d p a before middle → p < length m.processes → a < 2 ^ 32
    → Happened m (fall_labels d.state.falling) d e middle after → IsSteady m e → e.cells ≤ d.cells → Ended m p n c e before after
act_ends m c v d e p a n before middle after steady x there short fallen last few =
    let one = its_act m c v d p a before middle x in
    let l = label.Act p a one.choices in
    record {
      labels = l ∷ fall_labels d.state.falling;
      ends = by_fall one.choices d.state.falling refl one.did;
      did = did_more m c d e (l ∷ []) (fall_labels d.state.falling) before middle after (act_did m c v d p a before middle x there short) fallen;
      course = last.whole;
      settled = last.settled;
      few = let more = one.did.few in omega (arith, few, more);
    } where
      by_fall : (choices : List ℤ) (o : Option Falling) → d.state.falling ≡ o → DidOne m (label.Act p a choices) c d before middle → EndsTurn p n (label.Act p a choices ∷ fall_labels o)
      by_fall choices None is one = ran
      by_fall choices (Some f) is one =
          subst (λ q. EndsTurn p n (label.Act p a choices ∷ label.Stop q f.receivers ∷ [])) (sym (fall_of m c.state d.state p a choices one.sends f steady.settled one.ran is))
          (fell (some_fits d.state f d.state.falling is one.fits.falling).some_receiver)

pub act_ended : {T E : Type 0} (r : Result T E) (m : Semantics) (c v d e : Course) (p a n : ℕ) (before middle after : Deeds) → IsSteady m c → Behind m c v d p a before middle
    → p < length m.processes → a < 2 ^ 32 → OnOk r (Happened m (fall_labels d.state.falling) d e middle after) → OnOk r (IsSteady m e) → OnOk r (e.cells ≤ d.cells) → OnOk r (Ended m p n c e before after)
act_ended (Err why) m c v d e p a n before middle after steady x there short fallen last few = tt
act_ended (Ok done) m c v d e p a n before middle after steady x there short fallen last few = act_ends m c v d e p a n before middle after steady x there short fallen last few

-- where nothing is enabled

pub did_from : (m : Semantics) (c v e : Course) (labels : List Label) (before after : Deeds) → v.state ≡ c.state → v.turnstiles ≡ c.turnstiles → v.generators ≡ c.generators → v.errors ≡ c.errors → Happened m labels v e before after
    → Happened m labels c e before after
did_from m c v e labels before after state cursors generators errors d = record {
  ran = subst (λ s. state_after m s labels ≡ Some e.state) state d.ran;
  chosen = subst (λ s. AllChoose m (moments m s labels) c.turnstiles e.turnstiles) state (subst (λ (cs : List Cursor). AllChoose m (moments m v.state labels) cs e.turnstiles) cursors d.chosen);
  drawn = subst (λ s. AllDraw m (moments m s labels) c.generators e.generators) state (subst (λ (gs : List Lcg). AllDraw m (moments m v.state labels) gs e.generators) generators d.drawn);
  rejected = subst (λ s. AllReject (moments m s labels) c.errors e.errors) state (subst (λ (es : List (List ℕ)). AllReject (moments m v.state labels) es e.errors) errors d.rejected);
  sized = d.sized;
  recorded = subst (λ s. Recorded m s labels before after) state d.recorded;
}

pub idle_can : (m : Semantics) (c v : Course) (p : ℕ) → IsSteady m c → is_live c.state p ≡ true → slice_get c.errors p ≡ Some [] → v.state ≡ c.state → Chose m c.state p c.turnstiles None v.turnstiles
    → IsPossible m v.state (label.Idle p)
idle_can m c v p steady up left same chose =
    let x = live_process m c.state p steady.whole.fits up in
    subst (λ s. IsPossible m s (label.Idle p)) (sym same)
    (idle_possible m c.state p x.0 steady.settled up x.1 chose.0 (none_waits m c.state p c.errors steady.whole.fits steady.whole.errors left))

pub flood_can : (m : Semantics) (c v : Course) (p : ℕ) → IsSteady m c → is_live c.state p ≡ true → v.state ≡ c.state → Chose m c.state p c.turnstiles None v.turnstiles → IsPossible m v.state (label.Flood p)
flood_can m c v p steady up same chose =
    let x = live_process m c.state p steady.whole.fits up in
    subst (λ s. IsPossible m s (label.Flood p)) (sym same) (flood_possible m c.state p x.0 steady.settled up x.1 chose.0)

none_ends : (m : Semantics) (c v e : Course) (p n : ℕ) (l : Label) (before after : Deeds) → IsSteady m c → v.state ≡ c.state → v.cells ≡ c.cells → v.generators ≡ c.generators → v.errors ≡ c.errors
    → Chose m c.state p c.turnstiles None v.turnstiles → IsNoAct l → EndsTurn p n (l ∷ []) → Happened m (l ∷ []) v e before after → IsCourse m e → e.cells ≤ v.cells + 0 → Ended m p n c e before after
none_ends m c v e p n l before after steady state cells generators errors chose other ends d whole few =
    let done = did_from m c v e (l ∷ []) before after state chose.1 generators errors d in
    record {
      labels = l ∷ [];
      ends = ends;
      did = done;
      course = whole;
      settled = one_settled m c e l before after done other steady.settled;
      few = omega (arith, few, cells);
    }

pub none_ended : {T E : Type 0} (r : Result T E) (m : Semantics) (c v e : Course) (p n : ℕ) (l : Label) (before after : Deeds) → IsSteady m c → v.state ≡ c.state → v.cells ≡ c.cells → v.generators ≡ c.generators → v.errors ≡ c.errors
    → Chose m c.state p c.turnstiles None v.turnstiles → IsNoAct l → EndsTurn p n (l ∷ []) → OnOk r (Happened m (l ∷ []) v e before after) → OnOk r (IsCourse m e) → OnOk r (e.cells ≤ v.cells + 0)
    → OnOk r (Ended m p n c e before after)
none_ended (Err x) m c v e p n l before after steady state cells generators errors chose other ends d whole few = tt
none_ended (Ok x) m c v e p n l before after steady state cells generators errors chose other ends d whole few = none_ends m c v e p n l before after steady state cells generators errors chose other ends d whole few
