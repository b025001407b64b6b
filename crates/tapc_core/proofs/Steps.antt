-- What was put and written of a run, one event after another.
use Rattle.std.proofs.Common.{◌≡◌, ◌<◌, ◌≤◌, ◌+◌, inl, inr, ℕ, List, [], ◌∷◌, ◌++◌, map, length, Option, Some, None, refl, ap, sym, ◌∙◌, arith, append_assoc, append-nil, length-append, lit≤}
use Rattle.std.proofs.lemmas.Grind.{flat_map-append}
use Rattle.std.proofs.lemmas.List.{map-append}
use Rattle.std.specs.Io.KnownBytes.{Appends}
use Rattle.tap_base.specs.Lists.{Each}
use Rattle.abstract_run.specs.CellCount.{cells_in}
use Rattle.tap_exec.specs.Semantics.{Semantics}
use Rattle.abstract_run.specs.declared.label.Event.{Event}
use Rattle.abstract_run.specs.declared.state.State.{State}
use Rattle.run_text.specs.ScheduleText.{AreListed, HasLine, IsFirstLine, IsLineOf, event_line, events_text, most_events}
use Rattle.run_text.specs.TraceText.{lines_text, names_in}
use Rattle.tapc_core.specs.inner.Playing.{Passed, Progress}
use Rattle.exact_choice.specs.Choice.{opening_cursors}
use Rattle.exact_choice.specs.Draws.{opening_generators}
use Rattle.exact_choice.specs.Rejects.{opening_errors}
use Rattle.world_run.specs.declared.course.Course.{Course}
use Rattle.world_run.specs.RunsFrom.{HasRun}
use Rattle.world_run.specs.Served.{Served, full_from}
use Rattle.run_text.proofs.RunLines.{run_lines_more}
use Rattle.world_run.proofs.Lines.{lines_append}
use Rattle.world_run.proofs.RunsOn.{answered, none_run, runs_on}

-- ---- bytes

pub appends_none : (a : Option (List ℕ)) → Appends a a []
appends_none None = tt
appends_none (Some xs) = sym (append-nil xs)

pub appends_more : (a b c : Option (List ℕ)) (xs ys : List ℕ) → Appends a b xs → Appends b c ys → Appends a c (xs ++ ys)
appends_more None b c xs ys h k = tt
appends_more (Some a) None c xs ys h k = absurd h
appends_more (Some a) (Some b) None xs ys h k = absurd k
appends_more (Some a) (Some b) (Some c) xs ys h k = k ∙ ap (λ zs. zs ++ ys) h ∙ append_assoc a xs ys

-- ---- lists

pub each_more : {A : Type 0} (P : A → Type 0) (xs : List A) (x : A) → Each P xs → P x → Each P (xs ++ x ∷ [])
each_more P [] x h k = (k, tt)
each_more P (y ∷ ys) x h k = (h.0, each_more P ys x h.1 k)

pub lines_more : {A : Type 0} (f : A → List ℕ) (xs ys : List A) → lines_text (map f (xs ++ ys)) ≡ lines_text (map f xs) ++ lines_text (map f ys)
lines_more f xs ys = ap lines_text (map-append f xs ys) ∙ flat_map-append (λ l. l ++ 10 ∷ []) (map f xs) (map f ys)

-- ---- the schedule

-- one more event of a schedule
pub listed_more : (n : ℕ) (events : List Event) (e : Event) → AreListed n events → HasLine n e → length events + 1 ≤ most_events → AreListed n (events ++ e ∷ [])
listed_more n events e h k few = record { each = each_more _ events e h.each k; few = omega (arith, few, length-append events (e ∷ [])) }

event_more : (names : List (List ℕ)) (events : List Event) (e : Event) → events_text names (events ++ e ∷ []) ≡ events_text names events ++ (event_line names e ++ 10 ∷ [])
event_more names events e = lines_more (event_line names) events (e ∷ []) ∙ ap (λ x. events_text names events ++ x) (append-nil (event_line names e ++ 10 ∷ []))

passed_line : (names : List (List ℕ)) (schedule : List ℕ) (events : List Event) (line tail : List ℕ) (e : Event) → line ≡ event_line names e
    → schedule ≡ events_text names events ++ (line ++ 10 ∷ tail) → schedule ≡ events_text names (events ++ e ∷ []) ++ tail
passed_line names schedule events line tail e same h =
    let done = events_text names events in
    let here = event_line names e in
    h ∙ ap (λ l. done ++ (l ++ 10 ∷ tail)) same
    ∙ sym (ap (λ x. x ++ tail) (event_more names events e) ∙ append_assoc done (here ++ 10 ∷ []) tail ∙ ap (λ x. done ++ x) (append_assoc here (10 ∷ []) tail))

passed_last : (names : List (List ℕ)) (schedule : List ℕ) (events : List Event) (line : List ℕ) (e : Event) → line ≡ event_line names e
    → schedule ≡ events_text names events ++ line → schedule ++ 10 ∷ [] ≡ events_text names (events ++ e ∷ [])
passed_last names schedule events line e same h =
    let done = events_text names events in
    ap (λ x. x ++ 10 ∷ []) h ∙ append_assoc done line (10 ∷ []) ∙ ap (λ l. done ++ (l ++ 10 ∷ [])) same ∙ sym (event_more names events e)

-- one more line was read
passed_more : (names : List (List ℕ)) (schedule : List ℕ) (events : List Event) (rest line tail : List ℕ) (e : Event) → (rest ≡ [] → ⊥)
    → Passed names schedule events rest → IsFirstLine rest line tail → line ≡ event_line names e → Passed names schedule (events ++ e ∷ []) tail
passed_more names schedule events rest line tail e some (inl h) (inl k) same = inl (passed_line names schedule events line tail e same (h ∙ ap (λ x. events_text names events ++ x) k))
passed_more names schedule events rest line tail e some (inl h) (inr k) same =
    inr (k.1, passed_last names schedule events line e same (h ∙ ap (λ x. events_text names events ++ x) k.0))
passed_more names schedule events rest line tail e some (inr h) k same = absurd (some h.0)

-- a line is taken from a text that is not empty
pub first_line_taken : (text line rest : List ℕ) → (text ≡ [] → ⊥) → IsFirstLine text line rest → length rest < length text
first_line_taken text line rest some (inl h) = omega (arith, ap length h, length-append line (10 ∷ rest))
first_line_taken [] line rest some (inr h) = absurd (some refl)
first_line_taken (x ∷ xs) line rest some (inr h) = omega (arith, ap length h.1)

-- ---- progress

each_and : {A : Type 0} (P : A → Type 0) (xs ys : List A) → Each P xs → Each P ys → Each P (xs ++ ys)
each_and P [] ys h k = k
each_and P (x ∷ xs) ys h k = (h.0, each_and P xs ys h.1 k)

-- what is served goes on, and the cursors, the errors that wait and the generators are those of the course
pub record Goes (seed : ℕ) (semantics : Semantics) (start : State) (schedule rest : List ℕ) (number : ℕ) (course : Course) (before now : Option (List ℕ)) (page : List ℕ) : Type 0 where
  pub progress : Progress seed semantics start schedule rest number course.state before now page
  pub stand : progress.run.chosen.cursors ≡ course.turnstiles
  pub wait : progress.run.rejected.errors ≡ course.errors
  pub words : progress.run.drawn.generators ≡ course.generators

-- the run so far
has_run : {seed : ℕ} {semantics : Semantics} {start : State} {schedule rest : List ℕ} {number : ℕ} {course : Course} {before now : Option (List ℕ)} {page : List ℕ}
    → (g : Goes seed semantics start schedule rest number course before now page) → HasRun seed semantics start g.progress.events g.progress.labels course
has_run g = record { run = g.progress.run; cursors = g.stand; errors = g.wait; generators = g.words }

pub goes_start : (seed : ℕ) (semantics : Semantics) (course : Course) (schedule : List ℕ) (before : Option (List ℕ)) → course.turnstiles ≡ opening_cursors semantics → course.errors ≡ opening_errors semantics → course.generators ≡ opening_generators seed semantics
    → Goes seed semantics course.state schedule schedule 1 course before before []
goes_start seed semantics course schedule before stand wait words =
    let none = none_run seed semantics course stand wait words in
    record {
      progress = record {
        events = [];
        listed = record { each = tt; few = lit≤ tt };
        passed = inl refl;
        count = refl;
        labels = [];
        run = none.run;
        sized = tt;
        put = [];
        told = appends_none before;
        lines = [];
        shown = refl;
        is = refl;
      };
      stand = none.cursors;
      wait = none.errors;
      words = none.generators;
    }

pub goes_more : {seed : ℕ} {semantics : Semantics} {start : State} {schedule rest line tail : List ℕ} {number : ℕ} {old new : Course} {before now : Option (List ℕ)} {page after : List ℕ} {e : Event}
    → number ≤ most_events → Goes seed semantics start schedule rest number old before now page → (rest ≡ [] → ⊥) → IsFirstLine rest line tail → IsLineOf (names_in semantics) line e
    → cells_in old.state ≤ full_from → Served semantics e old new page after → Goes seed semantics start schedule tail (number + 1) new before now after
goes_more {seed = seed} {semantics = semantics} {start = start} {number = number} {old = old} {new = new} {page = page} {after = after} {e = e} few g some first spells room served =
    let p = g.progress in
    let did = served.did in
    let ran = answered semantics start old.state p.events p.labels p.run.answers in
    let wrote = did.wrote in
    let more = runs_on (has_run g) room served in
    record {
      progress = record {
        events = p.events ++ e ∷ [];
        listed = listed_more _ p.events e p.listed spells.0 (omega (arith, p.count, few));
        passed = passed_more (names_in semantics) _ p.events _ _ _ e some p.passed first spells.1;
        count = omega (arith, p.count, length-append p.events (e ∷ []));
        labels = p.labels ++ served.labels;
        run = more.run;
        sized = each_and _ p.labels served.labels p.sized did.sized;
        put = p.put;
        told = p.told;
        lines = p.lines ++ wrote.lines;
        shown = run_lines_more semantics start old.state p.labels served.labels p.lines wrote.lines ran p.shown wrote.shown;
        is = lines_append p.lines wrote.lines ∙ ap (λ z. z ++ lines_text wrote.lines) p.is ∙ append_assoc p.put page (lines_text wrote.lines) ∙ ap (λ z. p.put ++ z) (sym wrote.told);
      };
      stand = more.cursors;
      wait = more.errors;
      words = more.generators;
    }

-- the front of the page was put
pub goes_moved : {seed : ℕ} {semantics : Semantics} {start : State} {schedule rest : List ℕ} {number : ℕ} {course : Course} {before middle now : Option (List ℕ)} {page left : List ℕ}
    → Goes seed semantics start schedule rest number course before middle page → (put : List ℕ) → Appends middle now put → put ++ left ≡ page → Goes seed semantics start schedule rest number course before now left
goes_moved {before = before} {middle = middle} {now = now} {left = left} g put told cut =
    let p = g.progress in
    record {
      progress = record {
        events = p.events;
        listed = p.listed;
        passed = p.passed;
        count = p.count;
        labels = p.labels;
        run = p.run;
        sized = p.sized;
        put = p.put ++ put;
        told = appends_more before middle now p.put put p.told told;
        lines = p.lines;
        shown = p.shown;
        is = p.is ∙ ap (λ z. p.put ++ z) (sym cut) ∙ sym (append_assoc p.put put left);
      };
      stand = g.stand;
      wait = g.wait;
      words = g.words;
    }
