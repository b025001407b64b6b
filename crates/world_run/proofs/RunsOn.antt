-- A run of a world goes on by one event.
use Rattle.std.proofs.Common.{◌≡◌, ◌≤◌, ℕ, List, [], ◌∷◌, ◌++◌, Option, Some, None, refl, ap, sym, subst, ◌∙◌, append_assoc, append-nil}
use Rattle.tap_base.specs.Option.{◌>>=◌}
use Rattle.abstract_run.specs.Answers.{Answers, Serves}
use Rattle.abstract_run.specs.CellCount.{cells_in}
use Rattle.abstract_run.specs.Run.{state_after}
use Rattle.abstract_run.specs.Step.{step}
use Rattle.abstract_run.specs.declared.label.Event.{Event}
use Rattle.abstract_run.specs.declared.label.Label.{Label}
use Rattle.abstract_run.specs.declared.state.State.{State}
use Rattle.tap_exec.specs.Semantics.{Semantics}
use Rattle.rand_pcg.specs.Lcg.{Lcg}
use Rattle.guard_scheduler.specs.Cursor.{Cursor}
use Rattle.exact_choice.specs.Choice.{AllChoose, ChoosesInTurn, opening_cursors}
use Rattle.exact_choice.specs.Draws.{AllDraw, DrawsInOrder, opening_generators}
use Rattle.exact_choice.specs.Moments.{moments}
use Rattle.exact_choice.specs.Rejects.{AllReject, RejectsInOrder, opening_errors}
use Rattle.exact_choice.proofs.Drawn.{all_draw_joined}
use Rattle.exact_choice.proofs.Joined.{all_joined, moments_joined}
use Rattle.exact_choice.proofs.RejectsJoined.{all_reject_joined}
use Rattle.world_run.specs.RunsFrom.{AnswersInRoom, HasRun}
use Rattle.world_run.specs.Served.{Served, TookPlace, full_from}
use Rattle.world_run.specs.declared.course.Course.{Course}
use Rattle.world_run.specs.declared.deeds.Deeds.{Deeds}

pub answers_more : (m : Semantics) (s t u : State) (es : List Event) (e : Event) (labels more : List Label)
    → Answers m s es labels t → Serves m t e more u → Answers m s (es ++ e ∷ []) (labels ++ more) u
answers_more m s t u [] e labels more h served =
    (more, [], u, ap (λ xs. xs ++ more) h.0 ∙ sym (append-nil more), subst (λ x. Serves m x e more u) h.1 served, (refl, refl))
answers_more m s t u (d ∷ es) e labels more h served =
    (h.0, h.1 ++ more, h.2, ap (λ xs. xs ++ more) h.3 ∙ append_assoc h.0 h.1 more, h.4, answers_more m h.2 t u es e h.1 more h.5 served)

-- one more event, which was reached with room
pub in_room_more : (m : Semantics) (s t u : State) (es : List Event) (e : Event) (labels more : List Label)
    → AnswersInRoom m s es labels t → cells_in t ≤ full_from → Serves m t e more u → AnswersInRoom m s (es ++ e ∷ []) (labels ++ more) u
in_room_more m s t u [] e labels more h room served = (
  subst (λ (x : State). cells_in x ≤ full_from) h.1 room,
  (more, [], u, ap (λ xs. xs ++ more) h.0 ∙ sym (append-nil more), subst (λ x. Serves m x e more u) h.1 served, (refl, refl)),
)
in_room_more m s t u (d ∷ es) e labels more h room served =
    let k = h.1 in
    (h.0, (k.0, k.1 ++ more, k.2, ap (λ xs. xs ++ more) k.3 ∙ append_assoc k.0 k.1 more, k.4, in_room_more m k.2 t u es e k.1 more k.5 room served))

go_on : {A B : Type 0} (o : Option A) (f g : A → Option B) (t u : B) → ((a : A) → f a ≡ Some t → g a ≡ Some u) → (o >>= f) ≡ Some t → (o >>= g) ≡ Some u
go_on None f g t u go h = cc
go_on (Some a) f g t u go h = go a h

after_one : {A B : Type 0} (o : Option (A × B)) (f : A → Option A) (t u : A) → (o >>= λ a. f a.0) ≡ Some u → (o >>= λ a. Some a.0) ≡ Some t → f t ≡ Some u
after_one None f t u h k = cc
after_one (Some a) f t u h k = cc

pub state_after_more : (m : Semantics) (s t u : State) (xs ys : List Label) → state_after m s xs ≡ Some t → state_after m t ys ≡ Some u → state_after m s (xs ++ ys) ≡ Some u
state_after_more m s t u [] ys h k = let e : s ≡ t = cc in subst (λ x. state_after m x ys ≡ Some u) (sym e) k
state_after_more m s t u (l ∷ xs) ys h k =
    go_on (step m s l) (λ a. state_after m a.0 xs) (λ a. state_after m a.0 (xs ++ ys)) t u (λ a e. state_after_more m a.0 t u xs ys e k) h

-- what is chosen in a run and what is chosen from its end on
chosen_more : (m : Semantics) (s t : State) (xs ys : List Label) (later : List Cursor) → state_after m s xs ≡ Some t → (x : ChoosesInTurn m s xs) → AllChoose m (moments m t ys) x.cursors later
    → (y : ChoosesInTurn m s (xs ++ ys)) × (y.cursors ≡ later)
chosen_more m s t xs ys later h x more = (
  record {
    cursors = later;
    all = subst (λ ms. AllChoose m ms (opening_cursors m) later) (sym (moments_joined m s t xs ys h)) (all_joined m (moments m s xs) (moments m t ys) (opening_cursors m) x.cursors later x.all more);
  },
  refl,
)

-- what is rejected in a run and what is rejected from its end on
rejected_more : (m : Semantics) (s t : State) (xs ys : List Label) (later : List (List ℕ)) → state_after m s xs ≡ Some t → (x : RejectsInOrder m s xs) → AllReject (moments m t ys) x.errors later
    → (y : RejectsInOrder m s (xs ++ ys)) × (y.errors ≡ later)
rejected_more m s t xs ys later h x more = (
  record {
    errors = later;
    all = subst (λ ms. AllReject ms (opening_errors m) later) (sym (moments_joined m s t xs ys h)) (all_reject_joined (moments m s xs) (moments m t ys) (opening_errors m) x.errors later x.all more);
  },
  refl,
)

-- what is drawn in a run and what is drawn from its end on
drawn_more : (seed : ℕ) (m : Semantics) (s t : State) (xs ys : List Label) (later : List Lcg) → state_after m s xs ≡ Some t → (x : DrawsInOrder seed m s xs) → AllDraw m (moments m t ys) x.generators later
    → (y : DrawsInOrder seed m s (xs ++ ys)) × (y.generators ≡ later)
drawn_more seed m s t xs ys later h x more = (
  record {
    generators = later;
    all = subst (λ ms. AllDraw m ms (opening_generators seed m) later) (sym (moments_joined m s t xs ys h)) (all_draw_joined m (moments m s xs) (moments m t ys) (opening_generators seed m) x.generators later x.all more);
  },
  refl,
)

pub answered : (m : Semantics) (s t : State) (es : List Event) (labels : List Label) → Answers m s es labels t → state_after m s labels ≡ Some t
answered m s t [] labels h = ap (state_after m s) h.0 ∙ ap Some (sym h.1)
answered m s t (e ∷ es) labels h = ap (state_after m s) h.3 ∙ state_after_more m s h.2 t h.0 h.1 h.4.ran (answered m h.2 t es h.1 h.5)

-- a run before its first event
pub none_run : (seed : ℕ) (m : Semantics) (course : Course) → course.turnstiles ≡ opening_cursors m → course.errors ≡ opening_errors m → course.generators ≡ opening_generators seed m → HasRun seed m course.state [] [] course
none_run seed m course cursors errors generators = record {
  run = record {
    answers = (refl, refl);
    in_room = (refl, refl);
    chosen = record { cursors = opening_cursors m; all = refl };
    rejected = record { errors = opening_errors m; all = refl };
    drawn = record { generators = opening_generators seed m; all = refl };
  };
  cursors = sym cursors;
  errors = sym errors;
  generators = sym generators;
}

-- one more event, which was reached with room: its labels are a segment, and all goes on from the old course to the new one
run_more : {seed : ℕ} {m : Semantics} {start : State} {events : List Event} {labels : List Label} {old new : Course} {e : Event} (more : List Label)
    → HasRun seed m start events labels old → cells_in old.state ≤ full_from → Serves m old.state e more new.state → AllChoose m (moments m old.state more) old.turnstiles new.turnstiles
    → AllDraw m (moments m old.state more) old.generators new.generators → AllReject (moments m old.state more) old.errors new.errors → HasRun seed m start (events ++ e ∷ []) (labels ++ more) new
run_more {seed = seed} {m = m} {start = start} {events = events} {labels = labels} {old = old} {new = new} {e = e} more h room serves chosen drawn rejected =
    let s = old.state in
    let t = new.state in
    let ran = answered m start s events labels h.run.answers in
    let acts = chosen_more m start s labels more new.turnstiles ran h.run.chosen (subst (λ cs. AllChoose m (moments m s more) cs new.turnstiles) (sym h.cursors) chosen) in
    let errors = rejected_more m start s labels more new.errors ran h.run.rejected (subst (λ es. AllReject (moments m s more) es new.errors) (sym h.errors) rejected) in
    let draws = drawn_more seed m start s labels more new.generators ran h.run.drawn (subst (λ gs. AllDraw m (moments m s more) gs new.generators) (sym h.generators) drawn) in
    record {
      run = record {
        answers = answers_more m start s t events e labels more h.run.answers serves;
        in_room = in_room_more m start s t events e labels more h.run.in_room room serves;
        chosen = acts.0;
        rejected = errors.0;
        drawn = draws.0;
      };
      cursors = acts.1;
      errors = errors.1;
      generators = draws.1;
    }

-- one more event was served, and its lines were written
pub runs_on : {seed : ℕ} {m : Semantics} {start : State} {events : List Event} {labels : List Label} {old new : Course} {e : Event} {before after : List ℕ}
    → HasRun seed m start events labels old → cells_in old.state ≤ full_from → (served : Served m e old new before after) → HasRun seed m start (events ++ e ∷ []) (labels ++ served.labels) new
runs_on h room served = let did = served.did in run_more served.labels h room served.serves did.chosen did.drawn did.rejected

-- one more event took place, and what it did was recorded
pub event_runs_on : {seed : ℕ} {m : Semantics} {start : State} {events : List Event} {labels : List Label} {old new : Course} {e : Event} {before after : Deeds}
    → HasRun seed m start events labels old → cells_in old.state ≤ full_from → (took : TookPlace m e old new before after) → HasRun seed m start (events ++ e ∷ []) (labels ++ took.labels) new
event_runs_on h room took = let did = took.happened in run_more took.labels h room took.serves did.chosen did.drawn did.rejected
