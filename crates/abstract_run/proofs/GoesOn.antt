-- Where bodies keep ranges, an enabled action has a step with choices that lead its body to its end. Readings go on, and so does a stop that is due.
use Rattle.std.proofs.Common.{◌≡◌, ◌+◌, ◌<◌, ◌≤◌, ℕ, ℤ, Bool, true, not, List, [], ◌∷◌, length, refl, sym, ◌∙◌, slice_get, Option, Some, None, IfSome, IsSome, arith}
use Rattle.std.specs.Prelude.{is_some}
use Rattle.std.specs.Option.{option_map}
use Rattle.std.proofs.lemmas.Bool.{eq-eqb}
use Rattle.std.proofs.lemmas.Option.{option_and_then_some, slice_get_within}
use Rattle.std.proofs.lemmas.Slice.Eq.{bytes_eq-Decides}
use Rattle.tap_base.specs.Lists.{Each}
use Rattle.tap_base.specs.Option.{◌>>=◌, is_yes}
use Rattle.tap_base.proofs.ListFacts.{each_weaker, element_beside}
use Rattle.tap_exec.specs.declared.running.Outgoing.{Outgoing}
use Rattle.tap_exec.specs.Running.{Running}
use Rattle.tap_exec.specs.declared.running.TimerState.{TimerState}
use Rattle.abstract_run.specs.declared.label.Label.TheVariants as label
use Rattle.abstract_run.specs.declared.state.Channel.{Channel}
use Rattle.abstract_run.specs.declared.state.Falling.{Falling}
use Rattle.abstract_run.specs.declared.state.State.{State}
use Rattle.abstract_run.specs.Channels.{all_sent, most_cells, taken_back}
use Rattle.abstract_run.specs.Enabled.{is_ready, is_enabled}
use Rattle.abstract_run.specs.Fits.{FallingFits, Fits}
use Rattle.byte_meaning.specs.Messages.{IsFitSend, most_sends}
use Rattle.abstract_run.specs.Progress.{ActionsGoOn, FallsGoOn, HasRoom, IsPossible, TicksGoOn}
use Rattle.abstract_run.specs.Safe.{BodiesKeepRanges}
use Rattle.tap_exec.specs.Semantics.{ActionSemantics, ProcessSemantics, Semantics, action_at}
use Rattle.abstract_run.specs.Step.{After, body_run, is_live, performed, put_down, step, time_after}
use Rattle.abstract_run.proofs.Acted.{acted_is, left_by, left_fits}
use Rattle.abstract_run.proofs.Begins.{here}
use Rattle.abstract_run.proofs.Fallen.{can_take_back}
use Rattle.abstract_run.proofs.Kept.{flies_from, some_fits}
use Rattle.abstract_run.proofs.OnChannel.{Ends, count, count_next}
use Rattle.abstract_run.proofs.Roomy.{Joined, Roomy, can_send, joined_among, joined_same}
use Rattle.abstract_run.proofs.Taken.{taken_each, taken_ends, taken_shorter}
use Rattle.abstract_run.proofs.Ticked.{tick_to}

-- ---- its sends

-- each goes to another process, so there is a channel
to_another : (semantics : Semantics) (p : ℕ) (o : Outgoing) → p < length semantics.processes → IsFitSend semantics p o → o.to < length semantics.processes
to_another semantics p o within fit =
    option_and_then_some (λ (q : ProcessSemantics). slice_get q.actions fit.message.received.number) (slice_get semantics.processes o.to) fit.message.received.action fit.message.received.there
    (λ process is stands. slice_get_within semantics.processes o.to process is)

sends_go : (semantics : Semantics) (s : State) (p : ℕ) (sends : List Outgoing) (taken : List Channel) → Fits semantics s → p < length semantics.processes
    → Each (IsFitSend semantics p) sends → length sends ≤ most_sends → Ends taken s.channels → Each HasRoom taken → (channels : List Channel) × (all_sent p sends taken ≡ Some channels)
sends_go semantics s p sends taken fits within fitting few ends room =
    can_send p sends taken
    (each_weaker (IsFitSend semantics p) (λ o. Joined p o.to taken) sends (λ o x.
    joined_same p o.to _ taken (ends.0 ∙ fits.entries.senders, ends.1 ∙ fits.entries.receivers)
    (joined_among p o.to (length semantics.processes) (λ e. x.other (sym e)) within (to_another semantics p o within x))) fitting)
    (each_weaker HasRoom (Roomy (length sends)) taken (λ c r. omega (arith, r, few)) room)

-- ---- an action

performs : (semantics : Semantics) (s : State) (p a : ℕ) (process : ProcessSemantics) (action : ActionSemantics) (choices : List ℤ) (r : Running) → BodiesKeepRanges semantics → Fits semantics s
    → Each HasRoom s.channels → slice_get semantics.processes p ≡ Some process → slice_get process.actions a ≡ Some action → is_ready s p action ≡ true → body_run s p action choices ≡ Some r
    → (after : After) × (performed s p action choices ≡ Some after)
performs semantics s p a process action choices r keep fits room is stands ready ran =
    let left = left_fits semantics s p a process action choices r keep fits is stands ready ran in
    let b = left.begins in
    let ends = taken_ends p action.guard s.channels b.taken b.took in
    let roomy = taken_each HasRoom p action.guard (λ c h. omega (arith, h, taken_shorter c)) s.channels b.taken room b.took in
    let sent = sends_go semantics s p r.sends b.taken fits (slice_get_within semantics.processes p process is) left.fitting left.few ends roomy in
    let took = b.took in
    let goes = sent.1 in
    let declared = b.at.declared in
    ((left_by s p r sent.0 b.at.cut, r.sends), rw (ran, took, goes, declared) refl)

acts_when : (semantics : Semantics) (s : State) (p a : ℕ) (action : ActionSemantics) (choices : List ℤ) (after : After) → s.falling ≡ None → is_live s p ≡ true → action_at semantics p a ≡ Some action
    → is_ready s p action ≡ true → performed s p action choices ≡ Some after → step semantics s (label.Act p a choices) ≡ Some after
acts_when semantics s p a action choices after settled up is ready done =
    let acts = acted_is semantics s p a choices action is in rw (settled, acts, up, ready, done) refl

some_value : {A : Type 0} (o : Option A) → is_some o ≡ true → (x : A) × (o ≡ Some x)
some_value None h = cc
some_value (Some x) h = (x, refl)

pub actions_go_on : ActionsGoOn
actions_go_on semantics s p a choices keep fits settled up room enabled leads = by_action (action_at semantics p a) refl enabled leads where
  by_action : (o : Option ActionSemantics) → action_at semantics p a ≡ o → is_yes (option_map (is_ready s p) o) ≡ true → is_some (o >>= λ action. body_run s p action choices) ≡ true
      → IsPossible semantics s (label.Act p a choices)
  by_action None at ready ends = cc
  by_action (Some action) at ready ends =
      option_and_then_some (λ (q : ProcessSemantics). slice_get q.actions a) (slice_get semantics.processes p) action at (λ process is stands.
      let ran = some_value (body_run s p action choices) ends in
      let done = performs semantics s p a process action choices ran.0 keep fits room is stands ready ran.1 in
      record { next = done.0.0; sends = done.0.1; is = acts_when semantics s p a action choices done.0 settled up at ready done.1 })

-- ---- a reading

tick_when : (semantics : Semantics) (s : State) (p c time : ℕ) (timers : List TimerState) → s.falling ≡ None → is_live s p ≡ true → slice_get s.times p ≡ Some time → slice_get s.timers p ≡ Some timers
    → step semantics s (label.Tick p c) ≡ Some (tick_to s p (time_after time c) timers, [])
tick_when semantics s p c time timers settled up timed armed = rw (settled, timed, armed, up) refl

live_there : (s : State) (p : ℕ) → is_live s p ≡ true → (down : Bool) × (slice_get s.down p ≡ Some down)
live_there s p h = by_entry (slice_get s.down p) refl h where
  by_entry : (o : Option Bool) → slice_get s.down p ≡ o → is_yes (option_map not o) ≡ true → (down : Bool) × (slice_get s.down p ≡ Some down)
  by_entry None is h = cc
  by_entry (Some down) is h = (down, is)

-- a process that is not down is one of the system
pub live_process : (semantics : Semantics) (s : State) (p : ℕ) → Fits semantics s → is_live s p ≡ true → (process : ProcessSemantics) × (slice_get semantics.processes p ≡ Some process)
live_process semantics s p fits up = let x = live_there s p up in element_beside semantics.processes s.down p x.0 (sym fits.entries.down) x.1

pub ticks_go_on : TicksGoOn
ticks_go_on semantics s p c fits settled up =
    let at = here semantics s p (live_process semantics s p fits up).0 fits (live_process semantics s p fits up).1 in
    record { next = tick_to s p (time_after at.time c) at.timers; sends = []; is = tick_when semantics s p c at.time at.timers settled up at.read at.timed }

-- ---- room

pub room_by : (cs : List Channel) (n : ℕ) → count cs + n ≤ most_cells → Each (λ (c : Channel). length c.cells + n ≤ most_cells) cs
room_by [] n h = tt
room_by (c ∷ cs) n h = (omega (arith, h, count_next c cs), room_by cs n (omega (arith, h, count_next c cs)))

-- ---- a stop

fall_when : (semantics : Semantics) (s : State) (f : Falling) (channels : List Channel) → s.falling ≡ Some f → taken_back f.process f.receivers s.channels ≡ Some channels
    → step semantics s (label.Stop f.process f.receivers) ≡ Some (record (put_down s f.process) { channels = channels }, [])
fall_when semantics s f channels falls back =
    let same = eq-eqb f.process f.process refl in let receivers = (bytes_eq-Decides f.receivers f.receivers).1 refl in rw (falls, same, receivers, back) refl

pub falls_go_on : FallsGoOn
falls_go_on semantics s f fits falls =
    let some = some_fits s f s.falling falls fits.falling in
    let back = can_take_back f.process f.receivers s.channels fits.channels (flies_from s f f.process f.receivers some refl refl) in
    record { next = record (put_down s f.process) { channels = back.0 }; sends = []; is = fall_when semantics s f back.0 falls back.1 }

is_some_by : {A : Type 0} (o : Option A) (x : A) → o ≡ Some x → IsSome o
is_some_by None x e = cc
is_some_by (Some y) x e = refl

-- what falls can be taken back
pub fall_can : (semantics : Semantics) (s : State) → Fits semantics s → IfSome s.falling (λ f. IsSome (taken_back f.process f.receivers s.channels))
fall_can semantics s fits = by_falling s.falling fits.falling where
  by_falling : (o : Option Falling) → IfSome o (FallingFits s) → IfSome o (λ f. IsSome (taken_back f.process f.receivers s.channels))
  by_falling None h = tt
  by_falling (Some f) h =
      let back = can_take_back f.process f.receivers s.channels fits.channels (flies_from s f f.process f.receivers h refl refl) in is_some_by (taken_back f.process f.receivers s.channels) back.0 back.1
