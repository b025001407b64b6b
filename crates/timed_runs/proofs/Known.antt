-- A timeout keeps its delay: what is known of its timer as it comes.
use Rattle.std.proofs.Common.{◌≡◌, ◌+◌, ◌^◌, ◌<◌, ◌≤◌, inl, inr, min, ℕ, zero, suc, ℤ, Bool, true, List, take, length, refl, ap, sym, subst, ◌∙◌, slice_get, Option, Some, None, arith}
use Rattle.std.proofs.lemmas.Bool.{leb-true}
use Rattle.std.proofs.lemmas.Option.{option_and_then_some, slice_get_within}
use Rattle.abstract_run.specs.declared.label.Label.{Label}
use Rattle.abstract_run.specs.declared.label.Label.TheVariants as label
use Rattle.tap_exec.specs.declared.running.Outgoing.{Outgoing}
use Rattle.abstract_run.specs.declared.state.State.{State}
use Rattle.tap_exec.specs.declared.running.TimerState.{TimerState}
use Rattle.tap_exec.specs.declared.running.TimerState.TheVariants as timer
use Rattle.timed_runs.specs.Delays.{BodiesMakeNoneDue, IsTimeout, KeepsDelay, timer_of}
use Rattle.abstract_run.specs.Enabled.{guard_holds, is_due, is_ready}
use Rattle.tap_exec.specs.Semantics.{Semantics, ActionSemantics, timeout}
use Rattle.tap_base.specs.Option.{◌>>=◌, is_yes}
use Rattle.abstract_run.specs.Run.{state_after}
use Rattle.abstract_run.specs.Step.{After, step}
use Rattle.timed_runs.proofs.Prefixes.{step_at}
use Rattle.timed_runs.proofs.TimedSteps.{ActLeaves, act_step}
use Rattle.timed_runs.proofs.Since as since
use Rattle.timed_runs.proofs.KnownSteps.{in_timers, one_step}

yes_some : (o : Option Bool) → is_yes o ≡ true → o ≡ Some true
yes_some None e = cc
yes_some (Some b) e = ap Some e

due_is : (time : ℕ) (x : TimerState) → is_due time x ≡ true → (at : ℕ) × (x ≡ timer.Due at) × (at ≤ time)
due_is time timer.Off e = cc
due_is time (timer.Armed delay) e = cc
due_is time (timer.Due at) e = (at, refl, leb-true at time e)

module _ (semantics : Semantics) (s : State) (labels : List Label) (p t : ℕ) where
  abbrev Reads : ℕ → ℕ → Type 0
  Reads j c = since.Reads semantics s labels p t j c

  abbrev DueSince : ℕ → ℕ → State → Type 0
  DueSince n at u = since.DueSince semantics s labels p t n at u

  abbrev Reached : ℕ → ℕ → ℕ → ℕ → Type 0
  Reached j start n time = since.Reached semantics s labels p t j start n time

  abbrev Known : ℕ → State → Option TimerState → Type 0
  Known n u o = since.Known semantics s labels p t n u o

  -- ---- a whole run

  -- what is known as the label at n comes
  pub record KnownAt (n : ℕ) : Type 0 where
    pub u : State
    pub is : state_after semantics s (take n labels) ≡ Some u
    pub known : Known n u (timer_of p t u)

  next_known : (last : State) (n : ℕ) → BodiesMakeNoneDue semantics → state_after semantics s labels ≡ Some last → n < length labels → KnownAt n → KnownAt (n + 1)
  next_known last n bodies run h x =
      let y = step_at semantics s labels last n run h in
      let same : x.u ≡ y.u = let both : Some x.u ≡ Some y.u = sym x.is ∙ y.before in cc in
      record {
        u = y.v;
        is = y.after;
        known = one_step semantics s labels p t n y.u y.v y.l y.sends bodies y.stands y.stepped (ap (λ (o : Option State). o >>= timer_of p t) y.after)
            (subst (λ (w : State). Known n w (timer_of p t w)) same x.known);
      }

  known_at : (last : State) (n : ℕ) → BodiesMakeNoneDue semantics → state_after semantics s labels ≡ Some last → Known 0 s (timer_of p t s) → n ≤ length labels → KnownAt n
  known_at last zero bodies run opened h = record { u = s; is = refl; known = opened }
  known_at last (suc n) bodies run opened h =
      let one : n + 1 ≡ suc n = omega arith in
      subst KnownAt one (next_known last n bodies run (omega (arith, h)) (known_at last n bodies run opened (omega (arith, h))))

  -- ---- a timeout

  -- a timeout that is enabled finds its timer due by now
  pub record DueByNow (u : State) : Type 0 where
    pub at : ℕ
    pub is : timer_of p t u ≡ Some (timer.Due at)
    pub time : ℕ
    pub timed : slice_get u.times p ≡ Some time
    pub by_now : at ≤ time

  due_by_now : (u : State) (action : ActionSemantics) → action.guard ≡ timeout t → is_ready u p action ≡ true → DueByNow u
  due_by_now u action guard ready =
      let holds : guard_holds u p (timeout t) ≡ Some true = yes_some (guard_holds u p (timeout t)) (ap (λ g. is_yes (guard_holds u p g)) (sym guard) ∙ ready) in
      option_and_then_some _ (slice_get u.timers p) true holds (λ timers armed e1.
      option_and_then_some _ (slice_get timers t) true e1 (λ state is e2.
      option_and_then_some _ (slice_get u.times p) true e2 (λ time timed e3.
      let due = due_is time state (let same : is_due time state ≡ true = cc in same) in
      record { at = due.0; is = in_timers semantics s labels p t u timers armed ∙ is ∙ ap Some due.1; time = time; timed = timed; by_now = due.2 })))

  -- a reading from that at j on, before k, by which the delay has passed
  record Passed (k at : ℕ) (u : State) (x : DueSince k at u) : Type 0 where
    m : ℕ
    later : ℕ
    read_again : Reads m later
    from_there : x.j ≤ m
    up_to : m < k
    passed : min x.reading (2 ^ 62) + x.delay ≤ min later (2 ^ 62)

  passed_by : (k at time : ℕ) (u : State) → (x : DueSince k at u) → at ≤ time → Reached x.j x.start k time → Passed k at u x
  passed_by k at time u x l (inl r) =
      let due = x.due in
      let none : x.delay ≡ 0 = omega (arith, l, r, due) in
      record { m = x.j; later = x.reading; read_again = x.read; from_there = omega arith; up_to = x.read_before; passed = omega (arith, none) }
  passed_by k at time u x l (inr y) =
      let due = x.due in
      let started = x.started in
      let enough = y.5 in
      record { m = y.0; later = y.1; read_again = y.2; from_there = y.3; up_to = y.4; passed = omega (arith, l, due, started, enough) }

  -- a timeout at k whose timer was due by now
  kept_by : (k at time : ℕ) (u : State) → (x : DueSince k at u) → at ≤ time → Reached x.j x.start k time → KeepsDelay semantics s labels p t k
  kept_by k at time u x l r =
      let y = passed_by k at time u x l r in
      record {
        i = x.i;
        delay = x.delay;
        armed = x.armed;
        armed_before = omega (arith, x.read_after, x.read_before);
        last = x.last;
        j = x.j;
        reading = x.reading;
        read = x.read;
        read_after = x.read_after;
        read_before = x.read_before;
        first = x.first;
        due = at;
        stays = x.stays;
        m = y.m;
        later = y.later;
        read_again = y.read_again;
        from_there = y.from_there;
        up_to = y.up_to;
        passed = y.passed;
      }

  act_stands : (u v : State) (l : Label) (a : ℕ) (choices : List ℤ) (sends : List Outgoing) → l ≡ label.Act p a choices → ◌≡◌ {A = Option After} (step semantics u l) (Some (v, sends)) → ActLeaves semantics u p a v
  act_stands u v l a choices sends same e = act_step semantics u v p a choices sends (subst (λ k. ◌≡◌ {A = Option After} (step semantics u k) (Some (v, sends))) same e)

  pub keeps : (last : State) (k : ℕ) → BodiesMakeNoneDue semantics → state_after semantics s labels ≡ Some last → Known 0 s (timer_of p t s) → IsTimeout semantics s labels p t k → KeepsDelay semantics s labels p t k
  keeps last k bodies run opened x =
      let within = slice_get_within labels k (label.Act p x.number x.choices) x.stands in
      let known = known_at last k bodies run opened (omega (arith, within)) in
      let y = step_at semantics s labels last k run within in
      let same : y.u ≡ known.u = let both : Some y.u ≡ Some known.u = sym y.before ∙ known.is in cc in
      let l_is : y.l ≡ label.Act p x.number x.choices = let both : Some y.l ≡ Some (label.Act p x.number x.choices) = sym y.stands ∙ x.stands in cc in
      let h = act_stands y.u y.v y.l x.number x.choices y.sends l_is y.stepped in
      let action_is : h.action ≡ x.action = let both : Some h.action ≡ Some x.action = sym h.there ∙ x.there in cc in
      let d = due_by_now known.u x.action x.guard (subst (λ (w : State). is_ready w p x.action ≡ true) same (subst (λ c. is_ready y.u p c ≡ true) action_is h.ready)) in
      let due : DueSince k d.at known.u = subst (Known k known.u) {y = Some (timer.Due d.at)} d.is known.known in
      kept_by k d.at d.time known.u due d.by_now (due.reached d.time d.timed)
