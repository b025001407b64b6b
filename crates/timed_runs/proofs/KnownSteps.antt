-- What is known of a timer after each label of a run.
use Rattle.std.proofs.Common.{◌≡◌, ◌≢◌, ◌+◌, ◌^◌, ◌≤◌, ◌⊎◌, inl, inr, min, ℕ, ℤ, List, map, refl, ap, sym, subst, ◌∙◌, slice_get, Option, Some, None, arith}
use Rattle.std.specs.Option.{option_map}
use Rattle.std.proofs.lemmas.Option.{slice_get-map}
use Rattle.abstract_run.specs.declared.label.Label.{Label}
use Rattle.abstract_run.specs.declared.label.Label.TheVariants as label
use Rattle.tap_exec.specs.declared.running.Outgoing.{Outgoing}
use Rattle.abstract_run.specs.declared.state.State.{State}
use Rattle.tap_exec.specs.declared.running.TimerState.{TimerState}
use Rattle.tap_exec.specs.declared.running.TimerState.TheVariants as timer
use Rattle.timed_runs.specs.Delays.{BodiesMakeNoneDue, NoneIsMadeDue, timer_before, timer_of}
use Rattle.tap_exec.specs.Semantics.{Semantics, GuardSemantics, local, receive, timeout}
use Rattle.tap_base.specs.Option.{◌>>=◌}
use Rattle.abstract_run.specs.Step.{After, step, time_after, timer_after, timers_at}
use Rattle.timed_runs.proofs.TimedSteps.{ActLeaves, TickLeaves, Untouched, IsOther, act_step, other_step, set_here, tick_step}
use Rattle.timed_runs.proofs.Undue.{set_undue}
use Rattle.timed_runs.proofs.Since as since
use Rattle.timed_runs.proofs.Since.{here_or_before}

-- ---- facts of times

reading_within : (time c : ℕ) → min c (2 ^ 62) ≤ time_after time c
reading_within time c = omega arith

-- a time is an earlier one, or that of the reading itself
time_by : (time c : ℕ) → (time_after time c ≤ time) ⊎ (time_after time c ≤ min c (2 ^ 62))
time_by time c = grind arith

one_process : (q p : ℕ) → (q ≡ p) ⊎ (q ≢ p)
one_process q p = grind arith

-- ---- bodies

guard_undue : (g : GuardSemantics) (ts : List TimerState) → NoneIsMadeDue ts (timers_at g ts)
guard_undue (local test) ts t at e = e
guard_undue (receive m q) ts t at e = e
guard_undue (timeout k) ts t at e = set_undue ts k timer.Off (λ at e. cc) t at e

-- labels from a state, a process and a timer of it
module _ (semantics : Semantics) (s : State) (labels : List Label) (p t : ℕ) where
  abbrev Armed : ℕ → ℕ → Type 0
  Armed i delay = since.Armed semantics s labels p t i delay

  abbrev Reads : ℕ → ℕ → Type 0
  Reads j c = since.Reads semantics s labels p t j c

  abbrev before : ℕ → Option TimerState
  before n = timer_before semantics s labels p t n

  abbrev ArmedSince : ℕ → ℕ → Type 0
  ArmedSince n delay = since.ArmedSince semantics s labels p t n delay

  abbrev DueSince : ℕ → ℕ → State → Type 0
  DueSince n at u = since.DueSince semantics s labels p t n at u

  abbrev Reached : ℕ → ℕ → ℕ → ℕ → Type 0
  Reached j start n time = since.Reached semantics s labels p t j start n time

  abbrev Known : ℕ → State → Option TimerState → Type 0
  Known n u o = since.Known semantics s labels p t n u o

  -- ---- a label that is neither a reading nor an action of p

  other_known : (n : ℕ) (u v : State) (l : Label) (o : Option TimerState) → slice_get labels n ≡ Some l → IsOther p l → Untouched p u v
      → before (n + 1) ≡ o → Known n u o → Known (n + 1) v o
  other_known n u v l None stands other same here x = tt
  other_known n u v l (Some timer.Off) stands other same here x = tt
  other_known n u v l (Some (timer.Armed delay)) stands other same here x =
      since.armed_more semantics s labels p t n delay x (λ d armed. no_act l other armed.number armed.choices (sym stands ∙ armed.stands)) (λ c read. no_tick l other c (sym stands ∙ read)) where
        no_act : (l : Label) → IsOther p l → (a : ℕ) (choices : List ℤ) → Some l ≡ Some (label.Act p a choices) → ⊥
        no_act (label.Act q b more) other a choices e = other cc
        no_act _ other a choices e = cc

        no_tick : (l : Label) → IsOther p l → (c : ℕ) → Some l ≡ Some (label.Tick p c) → ⊥
        no_tick (label.Tick q d) other c e = other cc
        no_tick _ other c e = cc
  other_known n u v l (Some (timer.Due at)) stands other same here x =
      since.due_more semantics s labels p t n at u v x here (λ time e. since.reached_more semantics s labels p t x.j x.start n (n + 1) time (x.reached time (sym same.times ∙ e)) (omega arith))

  -- ---- a reading of p

  dated_armed : (n c delay time : ℕ) (v : State) → Reads n c → ArmedSince n delay → slice_get v.times p ≡ Some (time_after time c)
      → before (n + 1) ≡ Some (timer.Due (time_after time c + delay)) → DueSince (n + 1) (time_after time c + delay) v
  dated_armed n c delay time v read x later here =
      let at = time_after time c + delay in
      record {
        i = x.i;
        delay = delay;
        armed = x.armed;
        last = λ h d k l armed. elim (here_or_before h n l) [ inl e ↦ since.not_armed semantics s labels p t n at d here (subst (λ m. Armed m d) e armed) | inr b ↦ x.last h d k b armed ];
        j = n;
        reading = c;
        read = read;
        read_after = x.armed_before;
        read_before = omega arith;
        first = x.unread;
        start = time_after time c;
        started = reading_within time c;
        due = refl;
        stays = λ h k l. let same : h ≡ n + 1 = omega (arith, k, l) in subst (λ m. before m ≡ Some (timer.Due at)) (sym same) here;
        reached = λ time2 e. inl (let same : time2 ≡ time_after time c = let both : Some time2 ≡ Some (time_after time c) = sym e ∙ later in cc in omega arith);
      }

  dated_due : (n c at time : ℕ) (u v : State) → Reads n c → DueSince n at u → slice_get u.times p ≡ Some time → slice_get v.times p ≡ Some (time_after time c)
      → before (n + 1) ≡ Some (timer.Due at) → DueSince (n + 1) at v
  dated_due n c at time u v read x timed later here =
      since.due_more semantics s labels p t n at u v x here (λ time2 e.
      let same : time2 ≡ time_after time c = let both : Some time2 ≡ Some (time_after time c) = sym e ∙ later in cc in
      subst (Reached x.j x.start (n + 1)) (sym same) (elim (time_by time c) [ inl l ↦ reached_less (x.reached time timed) l | inr l ↦ inr (n, c, read, (let b = x.read_before in omega arith), omega arith, l) ])) where
        reached_less : {start new : ℕ} → Reached x.j start n time → new ≤ time → Reached x.j start (n + 1) new
        reached_less (inl k) l = inl (omega (arith, k, l))
        reached_less (inr y) l = inr (y.0, y.1, y.2, y.3, omega (arith, y.4), omega (arith, y.5, l))

  -- the timer after a reading of p, by what it was before
  tick_known : (n c time : ℕ) (u v : State) (o : Option TimerState) → Reads n c → slice_get u.times p ≡ Some time → slice_get v.times p ≡ Some (time_after time c)
      → before (n + 1) ≡ option_map (timer_after (time_after time c)) o → Known n u o → Known (n + 1) v (option_map (timer_after (time_after time c)) o)
  tick_known n c time u v None read timed later here x = tt
  tick_known n c time u v (Some timer.Off) read timed later here x = tt
  tick_known n c time u v (Some (timer.Armed delay)) read timed later here x = dated_armed n c delay time v read x later here
  tick_known n c time u v (Some (timer.Due at)) read timed later here x = dated_due n c at time u v read x timed later here

  -- ---- an action of p

  -- the timer after an action of p, by what it is then
  act_known : (n a : ℕ) (choices : List ℤ) (u v : State) (timers : List TimerState) (o : Option TimerState) → slice_get labels n ≡ Some (label.Act p a choices)
      → v.times ≡ u.times → before (n + 1) ≡ o → ((at : ℕ) → o ≡ Some (timer.Due at) → slice_get timers t ≡ Some (timer.Due at))
      → Known n u (slice_get timers t) → Known (n + 1) v o
  act_known n a choices u v timers None stands same here undue x = tt
  act_known n a choices u v timers (Some timer.Off) stands same here undue x = tt
  act_known n a choices u v timers (Some (timer.Armed delay)) stands same here undue x = record {
    i = n;
    armed = record { number = a; choices = choices; stands = stands; armed = here };
    armed_before = omega arith;
    last = λ h d k l armed. absurd (omega (arith, k, l));
    unread = λ h c k l read. absurd (omega (arith, k, l));
  }
  act_known n a choices u v timers (Some (timer.Due at)) stands same here undue x =
      let was : DueSince n at u = subst (Known n u) (undue at refl) x in
      since.due_more semantics s labels p t n at u v was here (λ time e.
      since.reached_more semantics s labels p t was.j was.start n (n + 1) time (was.reached time (ap (λ ts. slice_get ts p) (sym same) ∙ e)) (omega arith))

  -- ---- one step

  -- the timer of p in a state with these timers
  pub in_timers : (u : State) (timers : List TimerState) → slice_get u.timers p ≡ Some timers → timer_of p t u ≡ slice_get timers t
  in_timers u timers h = ap (λ (o : Option (List TimerState)). o >>= λ ts. slice_get ts t) h

  own_tick : (n c : ℕ) (u v : State) → Reads n c → TickLeaves u p c v → before (n + 1) ≡ timer_of p t v → Known n u (timer_of p t u) → Known (n + 1) v (timer_of p t v)
  own_tick n c u v read h here x =
      let dated = timer_after (time_after h.time c) in
      let old : timer_of p t u ≡ slice_get h.timers t = in_timers u h.timers h.armed in
      let new : timer_of p t v ≡ option_map dated (slice_get h.timers t) = in_timers v (map dated h.timers) h.dated ∙ slice_get-map dated h.timers t in
      subst (Known (n + 1) v) (sym new) (tick_known n c h.time u v (slice_get h.timers t) read h.timed h.later (here ∙ new) (subst (Known n u) old x))

  own_act : (n a : ℕ) (choices : List ℤ) (u v : State) → BodiesMakeNoneDue semantics → slice_get labels n ≡ Some (label.Act p a choices) → ActLeaves semantics u p a v
      → before (n + 1) ≡ timer_of p t v → Known n u (timer_of p t u) → Known (n + 1) v (timer_of p t v)
  own_act n a choices u v bodies stands h here x =
      let old : timer_of p t u ≡ slice_get h.timers t = in_timers u h.timers h.armed in
      let new : timer_of p t v ≡ slice_get h.r.timers t = in_timers v h.r.timers (ap (λ ts. slice_get ts p) h.timers_after ∙ set_here u.timers p h.timers h.r.timers h.armed) in
      let undue : (at : ℕ) → slice_get h.r.timers t ≡ Some (timer.Due at) → slice_get h.timers t ≡ Some (timer.Due at) =
      λ at e. guard_undue h.action.guard h.timers t at (ap (λ ts. slice_get ts t) (sym h.started) ∙ bodies p a h.action h.there h.inputs h.values h.start h.r h.ran t at e) in
      subst (Known (n + 1) v) (sym new) (act_known n a choices u v h.timers (slice_get h.r.timers t) stands h.times_after (here ∙ new) undue (subst (Known n u) old x))

  others_step : (n : ℕ) (u v : State) (l : Label) (sends : List Outgoing) → slice_get labels n ≡ Some l → IsOther p l → ◌≡◌ {A = Option After} (step semantics u l) (Some (v, sends))
      → before (n + 1) ≡ timer_of p t v → Known n u (timer_of p t u) → Known (n + 1) v (timer_of p t v)
  others_step n u v l sends stands other e here x =
      let same = other_step semantics u v p l sends other e in
      let kept : timer_of p t v ≡ timer_of p t u = ap (λ (o : Option (List TimerState)). o >>= λ ts. slice_get ts t) same.timers in
      subst (Known (n + 1) v) (sym kept) (other_known n u v l (timer_of p t u) stands other same (here ∙ kept) x)

  pub one_step : (n : ℕ) (u v : State) (l : Label) (sends : List Outgoing) → BodiesMakeNoneDue semantics → slice_get labels n ≡ Some l → ◌≡◌ {A = Option After} (step semantics u l) (Some (v, sends))
      → before (n + 1) ≡ timer_of p t v → Known n u (timer_of p t u) → Known (n + 1) v (timer_of p t v)
  one_step n u v (label.Tick q c) sends bodies stands e here x =
      elim (one_process q p) [
        | inl same ↦ own_tick n c u v (subst (λ r. slice_get labels n ≡ Some (label.Tick r c)) same stands)
            (tick_step semantics u v p c sends (subst (λ r. ◌≡◌ {A = Option After} (step semantics u (label.Tick r c)) (Some (v, sends))) same e)) here x
        | inr other ↦ others_step n u v (label.Tick q c) sends stands other e here x
      ]
  one_step n u v (label.Act q a choices) sends bodies stands e here x =
      elim (one_process q p) [
        | inl same ↦ own_act n a choices u v bodies (subst (λ r. slice_get labels n ≡ Some (label.Act r a choices)) same stands)
            (act_step semantics u v p a choices sends (subst (λ r. ◌≡◌ {A = Option After} (step semantics u (label.Act r a choices)) (Some (v, sends))) same e)) here x
        | inr other ↦ others_step n u v (label.Act q a choices) sends stands other e here x
      ]
  one_step n u v l sends bodies stands e here x = others_step n u v l sends stands tt e here x
