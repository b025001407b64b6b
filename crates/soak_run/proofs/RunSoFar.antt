-- A run on generated events, as far as it has come.
use Rattle.std.proofs.Common.{◌≡◌, ℕ, ◌+◌, ◌≤◌, ◌<◌, List, [], ◌∷◌, ◌++◌, Result, Ok, Err, length, flat_map, refl, ap, sym, subst, ◌∙◌, arith, length-append}
use Rattle.std.specs.Result.{IsErrAnd}
use Rattle.tap_base.specs.declared.system.System.{System}
use Rattle.tap_exec.specs.Semantics.{Semantics, semantics_of}
use Rattle.abstract_run.specs.CellCount.{cells_in}
use Rattle.abstract_run.specs.Fits.{Fits}
use Rattle.abstract_run.specs.Safe.{BodiesKeepRanges}
use Rattle.abstract_run.specs.declared.label.Event.{Event}
use Rattle.abstract_run.specs.declared.label.Label.{Label}
use Rattle.abstract_run.specs.declared.state.State.{State}
use Rattle.exact_choice.specs.Choice.{opening_cursors}
use Rattle.exact_choice.specs.Draws.{opening_generators}
use Rattle.exact_choice.specs.Rejects.{opening_errors}
use Rattle.run_text.specs.ScheduleText.{most_events}
use Rattle.run_text.specs.TraceText.{Datagram, datagram}
use Rattle.schedule_gen.specs.Laws.{behind_events}
use Rattle.schedule_gen.specs.Schedule.{Making, events_from, next_event, rest}
use Rattle.schedule_gen.proofs.Goes.{as_long}
use Rattle.soak_run.specs.Soaked.{GoesOnWith, Soaks}
use Rattle.soak_run.specs.Counted.{IsTallyOf, is_act, is_idle, is_reject, is_void}
use Rattle.soak_run.specs.declared.tally.Tally.{Tally}
use Rattle.soak_run.specs.inner.Counting.{HasRoom, counted, nothing}
use Rattle.soak_run.proofs.Bounds.{as_many, few_counted}
use Rattle.soak_run.proofs.MoreCounted.{few_of_kind, none_counted, tally_more}
use Rattle.soak_run.proofs.NextEvents.{behind_more, one_more}
use Rattle.world_run.specs.RunsFrom.{HasRun, IsRunFrom}
use Rattle.world_run.specs.Served.{AnswersEvent, GoesOn, TookPlace, WorldValue, full_from, no_deeds}
use Rattle.world_run.specs.declared.course.Course.{Course}
use Rattle.world_run.specs.declared.deeds.Deeds.{Deeds}
use Rattle.world_run.specs.declared.fault.WorldFault.{WorldFault}
use Rattle.world_run.specs.declared.fault.WorldFault.TheVariants as fault
use Rattle.world_run.proofs.Recording.{with_sents_more}
use Rattle.world_run.proofs.RunsOn.{answered, event_runs_on, none_run}

-- ---- a run

-- A run on the first i events has come to the course, the events go on with the generator, and the tally is that of its
-- labels.
pub record SoFar (seed : ℕ) (m : Semantics) (start : State) (making : Making) (i : ℕ) (course : Course) (generator : Making) (tally : Tally) : Type 0 where
  pub labels : List Label
  pub run : HasRun seed m start (events_from i making) labels course
  pub tallied : IsTallyOf m start labels tally
  pub behind : generator ≡ behind_events i making

-- before the first event
pub none_so_far : (seed : ℕ) (m : Semantics) (course : Course) (making generator : Making) (tally : Tally) → course.turnstiles ≡ opening_cursors m → course.errors ≡ opening_errors m
    → course.generators ≡ opening_generators seed m → generator ≡ making → tally ≡ nothing → SoFar seed m course.state making 0 course generator tally
unfolding events_from behind_events
none_so_far seed m course making generator tally cursors errors generators opened none = record {
  labels = [];
  run = none_run seed m course cursors errors generators;
  tallied = subst (IsTallyOf m course.state []) (sym none) (none_counted m course.state);
  behind = opened;
}

module _ {seed : ℕ} {m : Semantics} {start : State} {making : Making} {i : ℕ} {old new : Course} {generator : Making} {tally : Tally} {deeds : Deeds}
    (h : SoFar seed m start making i old generator tally) (room : cells_in old.state ≤ full_from) (took : TookPlace m (next_event generator) old new no_deeds deeds) where
  -- one event more, with its labels
  with_labels : (later : Making) → later ≡ rest generator → (more : SoFar seed m start making (i + 1) new later (counted tally deeds.labels (length deeds.sent))) × (more.labels ≡ h.labels ++ took.labels)
  with_labels later is =
      let recorded = took.happened.recorded in
      let events : events_from i making ++ next_event generator ∷ [] ≡ events_from (i + 1) making = ap (λ g. events_from i making ++ next_event g ∷ []) h.behind ∙ sym (one_more i making) in
      let shown = with_sents_more m start old.state h.labels took.labels h.tallied.pairs recorded.pairs (answered m start old.state (events_from i making) h.labels h.run.run.answers) h.tallied.shown recorded.shown in
      let sents : length deeds.sent ≡ length (flat_map (λ (x : Label × List Datagram). x.1) recorded.pairs) = ap length recorded.sent_are ∙ sym (as_many (datagram m) recorded.out _ recorded.spelled) in (
        record {
          labels = h.labels ++ took.labels;
          run = subst (λ es. HasRun seed m start es (h.labels ++ took.labels) new) events (event_runs_on h.run room took);
          tallied =
              subst (λ ls. IsTallyOf m start (h.labels ++ took.labels) (counted tally ls (length deeds.sent))) (sym recorded.labels_are)
              (tally_more m start h.labels took.labels tally recorded.pairs (length deeds.sent) h.tallied shown sents);
          behind = is ∙ ap rest h.behind ∙ sym (behind_more i making);
        },
        refl,
      )

  pub so_far_more : (later : Making) → later ≡ rest generator → SoFar seed m start making (i + 1) new later (counted tally deeds.labels (length deeds.sent))
  so_far_more later is = (with_labels later is).0

  -- 64 bits have room for its labels and its datagrams
  pub room_so_far : BodiesKeepRanges m → Fits m start → i < most_events → HasRoom tally (length deeds.labels) (length deeds.sent)
  room_so_far keeps fits soon =
      let more = with_labels (rest generator) refl in
      let few = few_counted m start new.state (events_from (i + 1) making) more.0.labels more.0.tallied.pairs keeps fits more.0.run.run.answers more.0.tallied.shown in
      let long = as_long (i + 1) making in
      let sents = more.0.tallied.sents in
      let all : length more.0.labels ≡ length h.labels + length deeds.labels = ap length more.1 ∙ length-append h.labels took.labels ∙ ap (λ ls. length h.labels + length ls) (sym took.happened.recorded.labels_are) in
      let acts = h.tallied.acts in
      let rejects = h.tallied.rejects in
      let idles = h.tallied.idles in
      let voids = h.tallied.voids in
      record {
        acts = omega (arith, few, long, all, soon, acts, few_of_kind is_act h.labels);
        sents = omega (arith, few, long, sents, soon);
        rejects = omega (arith, few, long, all, soon, rejects, few_of_kind is_reject h.labels);
        idles = omega (arith, few, long, all, soon, idles, few_of_kind is_idle h.labels);
        voids = omega (arith, few, long, all, soon, voids, few_of_kind is_void h.labels);
      }

-- ---- one call

-- what took place in the system of the run, by the event that came next
pub took_place : {own system : System} {e : Event} {old new : Course} {deeds : Deeds} (g : Making) → own ≡ system → e ≡ next_event g → TookPlace (semantics_of own) e old new no_deeds deeds
    → TookPlace (semantics_of system) (next_event g) old new no_deeds deeds
took_place {own = own} {old = old} {new = new} {deeds = deeds} g same is took =
    subst (λ s. TookPlace (semantics_of s) (next_event g) old new no_deeds deeds) same (subst (λ x. TookPlace (semantics_of own) x old new no_deeds deeds) is took)

-- an event that was not served ends the run where it is
pub stopped : (seed n : ℕ) (m : Semantics) (start : State) (making : Making) (i : ℕ) (old new : WorldValue) (generator : Making) (tally : Tally) (e : Event) (f : WorldFault)
    → SoFar seed m start making i old.course generator tally → i < n → GoesOn old → AnswersEvent e old (Err f) new → Soaks seed m start making n (Err f) new.course.state
stopped seed n m start making i old new generator tally e (fault.Full cells) h few on answers =
    let over = answers.0 in
    (i, few, h.labels, subst (λ (w : WorldValue). IsRunFrom seed m start (events_from i making) h.labels w.course.state) (sym answers.1) h.run.run, over.many, over.counted ∙ ap (λ (w : WorldValue). cells_in w.course.state) (sym answers.1))
stopped seed n m start making i old new generator tally e fault.Ended h few on answers = let going = on.going in let over = answers.0 in cc
stopped seed n m start making i old new generator tally e fault.NoMemory h few on answers = tt

-- its world can go on, unless memory was refused
pub still_goes_on : (e : Event) (f : WorldFault) (old new : WorldValue) → GoesOn old → AnswersEvent e old (Err f) new → GoesOnWith (Err f) new
still_goes_on e (fault.Full cells) old new on answers = subst GoesOn (sym answers.1) on
still_goes_on e fault.Ended old new on answers = let going = on.going in let over = answers.0 in cc
still_goes_on e fault.NoMemory old new on answers = tt

-- an error that is known
pub err_is : {T E : Type 0} (r : Result T E) (e : E) → IsErrAnd r (λ x. x ≡ e) → r ≡ Err e
err_is (Ok x) e h = absurd h
err_is (Err x) e h = ap Err h
