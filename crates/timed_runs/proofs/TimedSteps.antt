-- What a step does to the timers and the time of a process.
use Rattle.std.proofs.Common.{◌≡◌, ◌≢◌, ℕ, zero, suc, ℤ, Bool, true, false, List, [], ◌∷◌, map, refl, ap, subst, ◌∙◌, slice_get, slice_set, Option, Some, None, ◌&&◌}
use Rattle.std.specs.Option.{option_map}
use Rattle.std.proofs.lemmas.Option.{option_and_then_some, cond_some}
use Rattle.abstract_run.specs.declared.label.Label.{Label}
use Rattle.abstract_run.specs.declared.label.Label.TheVariants as label
use Rattle.tap_exec.specs.Running.{Running}
use Rattle.tap_exec.specs.declared.running.Outgoing.{Outgoing}
use Rattle.abstract_run.specs.declared.state.State.{State}
use Rattle.tap_exec.specs.declared.running.TimerState.{TimerState}
use Rattle.tap_base.specs.Faults.{changed_to, copied_at, lost_at, moved_to}
use Rattle.byte_meaning.specs.Reading.{meaning}
use Rattle.abstract_run.specs.declared.state.Falling.{Falling}
use Rattle.abstract_run.specs.Channels.{appended, on_flight, rejected_at, where_room}
use Rattle.abstract_run.specs.Enabled.{is_ready}
use Rattle.tap_exec.specs.Semantics.{Semantics, ActionSemantics, action_at}
use Rattle.tap_base.specs.Option.{◌>>=◌, is_yes, provided}
use Rattle.tap_exec.specs.Execution.{is_empty}
use Rattle.abstract_run.specs.Step.{After, acted, channel_changed, cut_off, fallen, flight_changed, is_flooded, is_idle, is_live, is_zero, mark_raised, put_down, received, rejected, settled_step, silent, step, step_by, stopped, ticked, time_after, timer_after, timers_at}
use Rattle.abstract_run.proofs.Acted.{acted_by}
use Rattle.abstract_run.proofs.Begins.{start}
use Rattle.abstract_run.proofs.Kept.{fallen_by}
use Rattle.abstract_run.proofs.Ticked.{read_by}

-- ---- one place of a list

pub set_here : {A : Type 0} (xs : List A) (k : ℕ) (x y : A) → slice_get xs k ≡ Some x → slice_get (slice_set xs k y) k ≡ Some y
set_here [] k x y h = cc
set_here (z ∷ zs) zero x y h = refl
set_here (z ∷ zs) (suc k) x y h = set_here zs k x y h

pub set_there : {A : Type 0} (xs : List A) (k j : ℕ) (y : A) → k ≢ j → slice_get (slice_set xs k y) j ≡ slice_get xs j
set_there [] k j y h = refl
set_there (z ∷ zs) zero zero y h = absurd (h refl)
set_there (z ∷ zs) zero (suc j) y h = refl
set_there (z ∷ zs) (suc k) zero y h = refl
set_there (z ∷ zs) (suc k) (suc j) y h = set_there zs k j y (λ e. h (ap suc e))

-- ---- readings and actions

-- what a reading of p leaves for p
pub record TickLeaves (u : State) (p c : ℕ) (v : State) : Type 0 where
  pub time : ℕ
  pub timers : List TimerState
  pub timed : slice_get u.times p ≡ Some time
  pub armed : slice_get u.timers p ≡ Some timers
  pub later : slice_get v.times p ≡ Some (time_after time c)
  pub dated : slice_get v.timers p ≡ Some (map (timer_after (time_after time c)) timers)

tick_leaves : (u v : State) (p c : ℕ) → ticked u p c ≡ Some v → TickLeaves u p c v
tick_leaves u v p c e =
    let h = read_by u v p c e in
    let later = time_after h.time c in
    let dated = map (timer_after later) h.timers in
    record {
      time = h.time;
      timers = h.timers;
      timed = h.timed;
      armed = h.armed;
      later = subst (λ (w : State). slice_get w.times p ≡ Some later) h.next (set_here u.times p h.time later h.timed);
      dated = subst (λ (w : State). slice_get w.timers p ≡ Some dated) h.next (set_here u.timers p h.timers dated h.armed);
    }

-- what an action of p leaves: its body began with the timers at hand, but for that of a timeout
pub record ActLeaves (semantics : Semantics) (u : State) (p a : ℕ) (v : State) : Type 0 where
  pub action : ActionSemantics
  pub there : action_at semantics p a ≡ Some action
  pub ready : is_ready u p action ≡ true
  pub timers : List TimerState
  pub armed : slice_get u.timers p ≡ Some timers
  pub inputs : List ℤ
  pub values : List ℤ
  pub start : Running
  pub started : start.timers ≡ timers_at action.guard timers
  pub r : Running
  pub ran : action.body inputs values start ≡ Some r
  pub timers_after : v.timers ≡ slice_set u.timers p r.timers
  pub times_after : v.times ≡ u.times

act_leaves : (semantics : Semantics) (u v : State) (p a : ℕ) (choices : List ℤ) (sends : List Outgoing) → ◌≡◌ {A = Option After} (acted semantics u p a choices) (Some (v, sends)) → ActLeaves semantics u p a v
act_leaves semantics u v p a choices sends e =
    let x = acted_by semantics u v p a choices sends e in
    option_and_then_some _ (slice_get u.stores p) x.done.r x.done.ran (λ cells stored r1.
    option_and_then_some _ (slice_get u.inputs.of p) x.done.r r1 (λ inputs given r2.
    option_and_then_some _ (slice_get u.timers p) x.done.r r2 (λ timers armed r3.
    option_and_then_some _ (received u p x.action.guard) x.done.r r3 (λ values heard r4.
    option_and_then_some _ (x.action.body inputs values (start cells (timers_at x.action.guard timers) choices)) x.done.r r4 (λ end did r5.
    record {
      action = x.action;
      there = x.at;
      ready = x.ready;
      timers = timers;
      armed = armed;
      inputs = inputs;
      values = values;
      start = start cells (timers_at x.action.guard timers) choices;
      started = refl;
      r = x.done.r;
      ran = did ∙ ap Some (cond_some (is_empty end.choices) end x.done.r r5).1;
      timers_after = ap (λ (w : State). w.timers) x.done.next;
      times_after = ap (λ (w : State). w.times) x.done.next;
    })))))

-- ---- every other label

-- the timers and the time of p are as before
pub record Untouched (p : ℕ) (u v : State) : Type 0 where
  pub timers : slice_get v.timers p ≡ slice_get u.timers p
  pub times : slice_get v.times p ≡ slice_get u.times p

-- neither a reading nor an action of p
abbrev pub IsOther : ℕ → Label → Type 0
IsOther p (label.Tick q c) = q ≢ p
IsOther p (label.Act q a choices) = q ≢ p
IsOther p _ = Unit {0}

-- all timers and times are as before
abbrev pub SameTimes : State → State → Type 0
SameTimes u v = (v.timers ≡ u.timers) × (v.times ≡ u.times)

same_untouched : (p : ℕ) (u v : State) → SameTimes u v → Untouched p u v
same_untouched p u v h = record { timers = ap (λ ts. slice_get ts p) h.0; times = ap (λ ts. slice_get ts p) h.1 }

silent_some : (o : Option State) (v : State) (sends : List Outgoing) → ◌≡◌ {A = Option After} (silent o) (Some (v, sends)) → o ≡ Some v
silent_some None v sends e = cc
silent_some (Some w) v sends e = let both : ◌≡◌ {A = After} (w, []) (v, sends) = cc in ap (λ (a : After). Some a.0) both

-- a step that changes channels alone
changed : {A : Type 0} (f : A → State) (u v : State) (o : Option A) → ((x : A) → SameTimes u (f x)) → option_map f o ≡ Some v → SameTimes u v
changed f u v None h e = cc
changed f u v (Some x) h e = let same : f x ≡ v = cc in subst (λ w. SameTimes u w) same (h x)

-- A label other than a reading and an action of p leaves the timers and the time of p.
other_untouched : (semantics : Semantics) (u v : State) (p : ℕ) (l : Label) (sends : List Outgoing) → IsOther p l → ◌≡◌ {A = Option After} (settled_step semantics u l) (Some (v, sends)) → Untouched p u v
other_untouched semantics u v p (label.Tick q c) sends other e =
    let h = read_by u v q c (silent_some (ticked u q c) v sends e) in
    subst (λ w. Untouched p u w) h.next (record {
      timers = set_there u.timers q p (map (timer_after (time_after h.time c)) h.timers) other;
      times = set_there u.times q p (time_after h.time c) other;
    })
other_untouched semantics u v p (label.Act q a choices) sends other e =
    let h = act_leaves semantics u v q a choices sends e in
    record {
      timers = ap (λ ts. slice_get ts p) h.timers_after ∙ set_there u.timers q p h.r.timers other;
      times = ap (λ ts. slice_get ts p) h.times_after;
    }
other_untouched semantics u v p (label.Idle q) sends other e =
    let same = (cond_some (is_idle semantics u q) u v (silent_some (provided (is_idle semantics u q) u) v sends e)).1 in
    same_untouched p u v (subst (λ w. SameTimes u w) same (refl, refl))
other_untouched semantics u v p (label.Flood q) sends other e =
    let same = (cond_some (is_flooded semantics u q) u v (silent_some (provided (is_flooded semantics u q) u) v sends e)).1 in
    same_untouched p u v (subst (λ w. SameTimes u w) same (refl, refl))
other_untouched semantics u v p (label.Reject q r i) sends other e =
    same_untouched p u v (by_test (is_live u r) (silent_some (rejected u q r i) v sends e)) where
      by_test : (b : Bool) → (provided b u >>= λ live. channel_changed (rejected_at i) live q r) ≡ Some v → SameTimes u v
      by_test true h = changed _ u v _ (λ channels. (refl, refl)) h
      by_test false h = cc
other_untouched semantics u v p (label.Arrive q r) sends other e =
    same_untouched p u v (changed _ u v _ (λ channels. (refl, refl)) (silent_some (channel_changed mark_raised u q r) v sends e))
other_untouched semantics u v p (label.Lose q r i) sends other e =
    same_untouched p u v (changed _ u v _ (λ channels. (refl, refl)) (silent_some (flight_changed (lost_at i) u q r) v sends e))
other_untouched semantics u v p (label.Copy q r i) sends other e =
    same_untouched p u v (changed _ u v _ (λ channels. (refl, refl)) (silent_some (channel_changed (where_room (on_flight (copied_at i))) u q r) v sends e))
other_untouched semantics u v p (label.Move q r i j) sends other e =
    same_untouched p u v (changed _ u v _ (λ channels. (refl, refl)) (silent_some (flight_changed (moved_to i j) u q r) v sends e))
other_untouched semantics u v p (label.Damage q r i bytes) sends other e =
    same_untouched p u v (changed _ u v _ (λ channels. (refl, refl)) (silent_some (flight_changed (changed_to i (meaning semantics q r bytes)) u q r) v sends e))
other_untouched semantics u v p (label.Forge q r bytes) sends other e =
    same_untouched p u v (changed _ u v _ (λ channels. (refl, refl)) (silent_some (channel_changed (appended (meaning semantics q r bytes)) u q r) v sends e))
other_untouched semantics u v p (label.Cut q n) sends other e =
    same_untouched p u v (changed _ u v _ (λ old. (refl, refl)) (silent_some (cut_off u q n) v sends e))
other_untouched semantics u v p (label.Stop q rs) sends other e =
    let same = (cond_some (is_live u q && is_zero (slice_get u.cuts q) && is_empty rs) (put_down u q) v (silent_some (stopped u q rs) v sends e)).1 in
    same_untouched p u v (subst (λ w. SameTimes u w) same (refl, refl))
other_untouched semantics u v p (label.Down q) sends other e =
    let same = (cond_some (is_yes (slice_get u.down q)) u v (silent_some (provided (is_yes (slice_get u.down q)) u) v sends e)).1 in
    same_untouched p u v (subst (λ w. SameTimes u w) same (refl, refl))
other_untouched semantics u v p label.Void sends other e =
    let same : u ≡ v = let it = silent_some (Some u) v sends e in cc in
    same_untouched p u v (subst (λ w. SameTimes u w) same (refl, refl))

-- the stop of a process whose cut fell
fallen_untouched : (u v : State) (p q : ℕ) (f : Falling) (rs : List ℕ) (sends : List Outgoing) → ◌≡◌ {A = Option After} (silent (fallen u f q rs)) (Some (v, sends)) → Untouched p u v
fallen_untouched u v p q f rs sends e =
    let x = fallen_by u v f q rs (silent_some (fallen u f q rs) v sends e) in same_untouched p u v (ap (λ (w : State). w.timers) x.next, ap (λ (w : State). w.times) x.next)

-- ---- the three kinds of steps

pub tick_step : (semantics : Semantics) (u v : State) (p c : ℕ) (sends : List Outgoing) → ◌≡◌ {A = Option After} (step semantics u (label.Tick p c)) (Some (v, sends)) → TickLeaves u p c v
tick_step semantics u v p c sends e = by u.falling e where
  by : (o : Option Falling) → ◌≡◌ {A = Option After} (step_by semantics u (label.Tick p c) o) (Some (v, sends)) → TickLeaves u p c v
  by None h = tick_leaves u v p c (silent_some (ticked u p c) v sends h)
  by (Some f) h = cc

pub act_step : (semantics : Semantics) (u v : State) (p a : ℕ) (choices : List ℤ) (sends : List Outgoing) → ◌≡◌ {A = Option After} (step semantics u (label.Act p a choices)) (Some (v, sends)) → ActLeaves semantics u p a v
act_step semantics u v p a choices sends e = by u.falling e where
  by : (o : Option Falling) → ◌≡◌ {A = Option After} (step_by semantics u (label.Act p a choices) o) (Some (v, sends)) → ActLeaves semantics u p a v
  by None h = act_leaves semantics u v p a choices sends h
  by (Some f) h = cc

pub other_step : (semantics : Semantics) (u v : State) (p : ℕ) (l : Label) (sends : List Outgoing) → IsOther p l → ◌≡◌ {A = Option After} (step semantics u l) (Some (v, sends)) → Untouched p u v
other_step semantics u v p l sends other e = by u.falling l other e where
  by : (o : Option Falling) (l : Label) → IsOther p l → ◌≡◌ {A = Option After} (step_by semantics u l o) (Some (v, sends)) → Untouched p u v
  by None l other h = other_untouched semantics u v p l sends other h
  by (Some f) (label.Stop q rs) other h = fallen_untouched u v p q f rs sends h
  by (Some f) _ other h = cc
