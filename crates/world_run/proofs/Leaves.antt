-- What labels leave as it is, and which are possible.
use Rattle.std.proofs.Common.{◌≡◌, ◌≢◌, ◌&&◌, ◌∙◌, not, ℕ, suc, ℤ, Bool, true, false, List, [], ◌∷◌, slice_get, slice_set, refl, ap, sym, subst, Option, Some, None}
use Rattle.std.specs.List.{list_any}
use Rattle.std.specs.Option.{option_map}
use Rattle.std.proofs.lemmas.Bool.{eqb-true}
use Rattle.std.proofs.lemmas.Option.{cond_some, option_and_then_some}
use Rattle.tap_base.specs.Option.{◌>>=◌, is_yes, provided}
use Rattle.tap_exec.specs.declared.running.Outgoing.{Outgoing}
use Rattle.tap_exec.specs.Semantics.{ProcessSemantics, Semantics}
use Rattle.abstract_run.specs.declared.label.Label.{Label}
use Rattle.abstract_run.specs.declared.label.Label.TheVariants as label
use Rattle.abstract_run.specs.declared.state.Channel.{Channel}
use Rattle.abstract_run.specs.declared.state.Falling.{Falling}
use Rattle.abstract_run.specs.declared.state.State.{State}
use Rattle.abstract_run.specs.Channels.{error_waits, rejected_at}
use Rattle.abstract_run.specs.Enabled.{any_enabled, is_enabled, is_ready}
use Rattle.abstract_run.specs.Progress.{IsPossible}
use Rattle.abstract_run.specs.Run.{state_after}
use Rattle.tap_exec.specs.Execution.{is_empty}
use Rattle.abstract_run.specs.Step.{After, any_pressing, channel_changed, cut_off, fallen, falling_after, is_flooded, is_idle, is_live, is_pressing, is_receive, is_zero, put_down, rejected, settled_step, silent, step, step_by, stopped, ticked}
use Rattle.abstract_run.proofs.Acted.{acted_by}
use Rattle.abstract_run.proofs.Kept.{fallen_by}
use Rattle.abstract_run.proofs.Mild.{Moved, moved_by}
use Rattle.abstract_run.proofs.OnChannel.{mapped_some}
use Rattle.abstract_run.proofs.Ticked.{Read, read_by}

-- ---- the row of a step

quiet : (o : Option State) (t : State) (sends : List Outgoing) → silent o ≡ Some (t, sends) → o ≡ Some t
quiet None t sends e = cc
quiet (Some u) t sends e = let both : ◌≡◌ {A = After} (u, []) (t, sends) = cc in ap (λ (a : After). Some a.0) both

settled_row : (m : Semantics) (s : State) (l : Label) (after : After) → s.falling ≡ None → step m s l ≡ Some after → settled_step m s l ≡ Some after
settled_row m s l after none e = subst (λ o. step_by m s l o ≡ Some after) none e

-- ---- readings

pub tick_reads : (m : Semantics) (s t : State) (p c : ℕ) (sends : List Outgoing) → s.falling ≡ None → step m s (label.Tick p c) ≡ Some (t, sends) → Read s p c t
tick_reads m s t p c sends none e = read_by s t p c (quiet (ticked s p c) t sends (settled_row m s (label.Tick p c) (t, sends) none e))

-- ---- rejects

pub reject_moves : (m : Semantics) (s t : State) (q p i : ℕ) (sends : List Outgoing) → s.falling ≡ None → step m s (label.Reject q p i) ≡ Some (t, sends) → Moved s q p (rejected_at i) t
reject_moves m s t q p i sends none e = by_test (is_live s p) (quiet (rejected s q p i) t sends (settled_row m s (label.Reject q p i) (t, sends) none e)) where
  by_test : (b : Bool) → (provided b s >>= λ live. channel_changed (rejected_at i) live q p) ≡ Some t → Moved s q p (rejected_at i) t
  by_test true h = moved_by s t q p (rejected_at i) h
  by_test false h = cc

-- ---- nothing falls, but behind an action

abbrev pub IsNoAct : Label → Type 0
IsNoAct (label.Act p a choices) = ⊥
IsNoAct _ = Unit {0}

moved_settled : (s t : State) (q p : ℕ) (f : Channel → Option Channel) → s.falling ≡ None → channel_changed f s q p ≡ Some t → t.falling ≡ None
moved_settled s t q p f none e = ap (λ (u : State). u.falling) (moved_by s t q p f e).next ∙ none

stays : (s t : State) (b : Bool) → s.falling ≡ None → provided b s ≡ Some t → t.falling ≡ None
stays s t b none e = ap (λ (u : State). u.falling) (sym (cond_some b s t e).1) ∙ none

pub settled_after : (m : Semantics) (s t : State) (l : Label) (sends : List Outgoing) → IsNoAct l → s.falling ≡ None → step m s l ≡ Some (t, sends) → t.falling ≡ None
settled_after m s t l sends other none e = by_label l other (settled_row m s l (t, sends) none e) where
  by_label : (l : Label) → IsNoAct l → settled_step m s l ≡ Some (t, sends) → t.falling ≡ None
  by_label (label.Tick p c) other h = ap (λ (u : State). u.falling) (sym (read_by s t p c (quiet (ticked s p c) t sends h)).next) ∙ none
  by_label (label.Reject q p i) other h = ap (λ (u : State). u.falling) (reject_moves m s t q p i sends none (subst (λ o. step_by m s (label.Reject q p i) o ≡ Some (t, sends)) (sym none) h)).next ∙ none
  by_label (label.Act p a choices) other h = absurd other
  by_label (label.Idle p) other h = stays s t (is_idle m s p) none (quiet _ t sends h)
  by_label (label.Flood p) other h = stays s t (is_flooded m s p) none (quiet _ t sends h)
  by_label (label.Arrive q p) other h = moved_settled s t q p _ none (quiet _ t sends h)
  by_label (label.Lose q p i) other h = moved_settled s t q p _ none (quiet _ t sends h)
  by_label (label.Copy q p i) other h = moved_settled s t q p _ none (quiet _ t sends h)
  by_label (label.Move q p i j) other h = moved_settled s t q p _ none (quiet _ t sends h)
  by_label (label.Damage q p i bytes) other h = moved_settled s t q p _ none (quiet _ t sends h)
  by_label (label.Forge q p bytes) other h = moved_settled s t q p _ none (quiet _ t sends h)
  by_label (label.Cut p n) other h =
      let x = mapped_some (λ (old : Option ℕ). let u : State = record s { cuts = slice_set s.cuts p (Some n) } in u) (slice_get s.cuts p) t (quiet (cut_off s p n) t sends h) in
      ap (λ (u : State). u.falling) x.2 ∙ none
  by_label (label.Stop p rs) other h =
      let x = cond_some (is_live s p && is_zero (slice_get s.cuts p) && is_empty rs) (put_down s p) t (quiet (stopped s p rs) t sends h) in ap (λ (u : State). u.falling) (sym x.1)
  by_label (label.Down p) other h = stays s t (is_yes (slice_get s.down p)) none (quiet _ t sends h)
  by_label label.Void other h = stays s t true none (quiet _ t sends h)

-- the stop of a cut that fell leaves nothing falling
pub fall_settled : (m : Semantics) (s t : State) (f : Falling) (p : ℕ) (rs : List ℕ) (sends : List Outgoing) → s.falling ≡ Some f → step m s (label.Stop p rs) ≡ Some (t, sends) → t.falling ≡ None
fall_settled m s t f p rs sends falls e =
    let row : silent (fallen s f p rs) ≡ Some (t, sends) = subst (λ o. step_by m s (label.Stop p rs) o ≡ Some (t, sends)) falls e in
    ap (λ (u : State). u.falling) (fallen_by s t f p rs (quiet (fallen s f p rs) t sends row)).next

-- ---- a run of one label

pub one_step : (m : Semantics) (s t : State) (l : Label) → state_after m s (l ∷ []) ≡ Some t → (sends : List Outgoing) × (step m s l ≡ Some (t, sends))
one_step m s t l e =
    option_and_then_some (λ (a : After). Some a.0) (step m s l) t e (λ after is last.
    let same : after.0 ≡ t = cc in (after.1, is ∙ ap (λ u. Some (u, after.1)) same))

-- ---- actions

-- a cut that falls in an action is of its process
pub fall_of : (m : Semantics) (s t : State) (p a : ℕ) (choices : List ℤ) (sends : List Outgoing) (f : Falling) → s.falling ≡ None → step m s (label.Act p a choices) ≡ Some (t, sends) → t.falling ≡ Some f → f.process ≡ p
fall_of m s t p a choices sends f none e falls =
    let x = acted_by m s t p a choices sends (settled_row m s (label.Act p a choices) (t, sends) none e) in
    by_cut x.done.cut x.done.r.sends (sym (ap (λ (u : State). u.falling) x.done.next) ∙ falls) where
      by_test : (b : Bool) (g : Falling) → g.process ≡ p → provided b g ≡ Some f → f.process ≡ p
      by_test b g is h = ap (λ (k : Falling). k.process) (sym (cond_some b g f h).1) ∙ is

      by_cut : (cut : Option ℕ) (os : List Outgoing) → falling_after p cut os ≡ Some f → f.process ≡ p
      by_cut None os h = cc
      by_cut (Some n) os h = by_test _ _ refl h

-- ---- turns without an action

none_any : {A : Type 0} (f g : A → Bool) (xs : List A) → ((x : A) → f x ≡ false → g x ≡ false) → ((k : ℕ) → is_yes (option_map f (slice_get xs k)) ≡ false) → list_any g xs ≡ false
none_any f g [] weaker h = refl
none_any f g (x ∷ xs) weaker h = let first = weaker x (h 0) in let rest = none_any f g xs weaker (λ k. h (suc k)) in rw (first, rest) refl

-- no action of a process is enabled
abbrev pub NoneEnabled : Semantics → State → ℕ → Type 0
NoneEnabled m s p = (a : ℕ) → is_enabled m s p a ≡ false

at_process : (m : Semantics) (s : State) (p : ℕ) (process : ProcessSemantics) → slice_get m.processes p ≡ Some process → NoneEnabled m s p → (k : ℕ) → is_yes (option_map (is_ready s p) (slice_get process.actions k)) ≡ false
at_process m s p process is none k = ap (λ o. is_yes (option_map (is_ready s p) (o >>= λ (q : ProcessSemantics). slice_get q.actions k))) (sym is) ∙ none k

none_enabled : (m : Semantics) (s : State) (p : ℕ) (process : ProcessSemantics) → slice_get m.processes p ≡ Some process → NoneEnabled m s p → any_enabled m s p ≡ false
none_enabled m s p process is none =
    ap (λ o. is_yes (option_map (λ (q : ProcessSemantics). list_any (is_ready s p) q.actions) o)) is ∙ none_any (is_ready s p) (is_ready s p) process.actions (λ x h. h) (at_process m s p process is none)

none_pressing : (m : Semantics) (s : State) (p : ℕ) (process : ProcessSemantics) → slice_get m.processes p ≡ Some process → NoneEnabled m s p → any_pressing m s p ≡ false
none_pressing m s p process is none =
    ap (λ o. is_yes (option_map (λ (q : ProcessSemantics). list_any (is_pressing s p) q.actions) o)) is
    ∙ none_any (is_ready s p) (is_pressing s p) process.actions (λ x h. weaker (not (is_receive x.guard)) (is_ready s p x) h) (at_process m s p process is none) where
      weaker : (b d : Bool) → d ≡ false → (b && d) ≡ false
      weaker true d h = h
      weaker false d h = refl

pub idle_possible : (m : Semantics) (s : State) (p : ℕ) (process : ProcessSemantics) → s.falling ≡ None → is_live s p ≡ true → slice_get m.processes p ≡ Some process → NoneEnabled m s p
    → error_waits s.channels p ≡ false → IsPossible m s (label.Idle p)
idle_possible m s p process settled up is none clean = let still = none_enabled m s p process is none in record { next = s; sends = []; is = rw (settled, up, still, clean) refl }

pub flood_possible : (m : Semantics) (s : State) (p : ℕ) (process : ProcessSemantics) → s.falling ≡ None → is_live s p ≡ true → slice_get m.processes p ≡ Some process → NoneEnabled m s p
    → IsPossible m s (label.Flood p)
flood_possible m s p process settled up is none = let still = none_pressing m s p process is none in record { next = s; sends = []; is = rw (settled, up, still) refl }

-- ---- a process that is down, and one that is cut off

pub down_possible : (m : Semantics) (s : State) (p : ℕ) → s.falling ≡ None → slice_get s.down p ≡ Some true → IsPossible m s (label.Down p)
down_possible m s p settled down = record { next = s; sends = []; is = rw (settled, down) refl }

pub live_by : (s : State) (p : ℕ) → slice_get s.down p ≡ Some false → is_live s p ≡ true
live_by s p up = ap (λ o. is_yes (option_map not o)) up

pub stop_possible : (m : Semantics) (s : State) (p : ℕ) → s.falling ≡ None → is_live s p ≡ true → is_zero (slice_get s.cuts p) ≡ true → IsPossible m s (label.Stop p [])
stop_possible m s p settled up cut = record { next = put_down s p; sends = []; is = rw (settled, up, cut) refl }

pub void_possible : (m : Semantics) (s : State) → s.falling ≡ None → IsPossible m s label.Void
void_possible m s settled = record { next = s; sends = []; is = rw settled refl }

pub zero_cut : (o : Option (Option ℕ)) → is_zero o ≡ true → o ≡ Some (Some 0)
zero_cut None h = cc
zero_cut (Some None) h = cc
zero_cut (Some (Some n)) h = ap (λ k. Some (Some k)) (eqb-true n 0 h)

pub other_cut : (o : Option (Option ℕ)) (cut : Option ℕ) → o ≡ Some cut → is_zero o ≡ false → cut ≢ Some 0
other_cut o cut e h same = let zero_is : is_zero o ≡ true = ap is_zero (e ∙ ap Some same) in cc
