-- What lines are, each of which came in its turn: the first of a run or of its trace.
use Rattle.std.proofs.Common.{◌≡◌, inl, inr, ℕ, true, false, List, [], ◌∷◌, ◌++◌, map, length, refl, ap, sym, subst, ◌∙◌, Option, Some, None, append_assoc, append-nil}
use Rattle.tap_base.specs.Lists.{Each}
use Rattle.tap_base.specs.Option.{◌>>=◌}
use Rattle.abstract_run.specs.Run.{state_after}
use Rattle.abstract_run.specs.Step.{After, step}
use Rattle.abstract_run.specs.declared.label.Label.{Label}
use Rattle.abstract_run.specs.declared.state.State.{State}
use Rattle.tap_exec.specs.Semantics.{Semantics}
use Rattle.run_text.specs.Sized.{IsSized}
use Rattle.run_text.specs.TraceText.{label_line, last_lines, lines_text, names_in, run_lines, sent_line, trace_lines}
use Rattle.run_text.proofs.RunLines.{one_label, run_lines_more, whole_trace}
use Rattle.replay.specs.Stages.{BeginsLast, Goes, PassesDue, Stage, TakesLabel, first_stage}
use Rattle.replay.specs.Traces.{BeginsTrace}
use Rattle.replay.specs.inner.Progress.{Walks}
use Rattle.replay.proofs.Texts.{lines_append, lines_first, lines_last}

-- what was told so far: the lines of a run, or those of its trace
pub data Told (semantics : Semantics) (start : State) (labels : List Label) (whole : List (List ℕ)) : Stage → Type 0 where
  running : {s : State} {due : List ℕ} → run_lines semantics start labels ≡ Some whole → state_after semantics start labels ≡ Some s → Told semantics start labels whole (record { state = s; due = due; closing = false })
  closing : {s : State} {due : List ℕ} → trace_lines semantics start labels ≡ Some whole → Told semantics start labels whole (record { state = s; due = due; closing = true })

-- The lines so far, and those that are due, are the lines of a run or of its trace.
pub record Stood (semantics : Semantics) (start : State) (lines : List (List ℕ)) (stage : Stage) : Type 0 where
  pub labels : List Label
  pub sized : Each (IsSized (length semantics.processes)) labels
  pub whole : List (List ℕ)
  pub told : Told semantics start labels whole stage
  pub text : lines_text whole ≡ lines_text lines ++ stage.due

pub stood_first : (semantics : Semantics) (start : State) → Stood semantics start [] (first_stage start)
stood_first semantics start = record { labels = []; sized = tt; whole = []; told = running refl refl; text = refl }

-- ---- one more line

told_on : (semantics : Semantics) (start : State) (labels : List Label) (whole : List (List ℕ)) (old new : Stage) → new.state ≡ old.state → new.closing ≡ old.closing
    → Told semantics start labels whole old → Told semantics start labels whole new
told_on semantics start labels whole old new e f (running h k) =
    let same : record { state = new.state; due = new.due; closing = new.closing } ≡ new = refl in
    subst (λ c. Told semantics start labels whole (record { state = new.state; due = new.due; closing = c })) (sym f)
    (subst (λ s. Told semantics start labels whole (record { state = s; due = new.due; closing = false })) (sym e) (running h k))
told_on semantics start labels whole old new e f (closing h) =
    subst (λ c. Told semantics start labels whole (record { state = new.state; due = new.due; closing = c })) (sym f) (closing h)

due_text : (lines : List (List ℕ)) (line due : List ℕ) (all : List ℕ) → all ≡ lines_text lines ++ (line ++ 10 ∷ due) → all ≡ lines_text (lines ++ line ∷ []) ++ due
due_text lines line due all h =
    h ∙ ap (λ z. lines_text lines ++ z) (sym (append_assoc line (10 ∷ []) due)) ∙ sym (append_assoc (lines_text lines) (line ++ 10 ∷ []) due) ∙ ap (λ z. z ++ due) (sym (lines_last lines line))

by_due : (semantics : Semantics) (start : State) (lines : List (List ℕ)) (line : List ℕ) (old new : Stage) → Stood semantics start lines old → PassesDue old line new → Stood semantics start (lines ++ line ∷ []) new
by_due semantics start lines line old new h p = record {
  labels = h.labels;
  sized = h.sized;
  whole = h.whole;
  told = told_on semantics start h.labels h.whole old new p.state p.closing h.told;
  text = due_text lines line new.due (lines_text h.whole) (h.text ∙ ap (λ z. lines_text lines ++ z) p.due);
}

pub each_more : {A : Type 0} (P : A → Type 0) (xs : List A) (x : A) → Each P xs → P x → Each P (xs ++ x ∷ [])
each_more P [] x h k = (k, tt)
each_more P (y ∷ ys) x h k = (h.0, each_more P ys x h.1 k)

go_on : {A B : Type 0} (o : Option A) (f g : A → Option B) (t u : B) → ((a : A) → f a ≡ Some t → g a ≡ Some u) → (o >>= f) ≡ Some t → (o >>= g) ≡ Some u
go_on None f g t u go h = cc
go_on (Some a) f g t u go h = go a h

pub state_after_more : (m : Semantics) (s t u : State) (xs ys : List Label) → state_after m s xs ≡ Some t → state_after m t ys ≡ Some u → state_after m s (xs ++ ys) ≡ Some u
state_after_more m s t u [] ys h k = let e : s ≡ t = cc in subst (λ x. state_after m x ys ≡ Some u) (sym e) k
state_after_more m s t u (l ∷ xs) ys h k = go_on (step m s l) _ _ t u (λ after e. state_after_more m after.0 t u xs ys e k) h

-- the run so far, where nothing is due
record Running (semantics : Semantics) (start : State) (labels : List Label) (whole : List (List ℕ)) (stage : Stage) : Type 0 where
  told : run_lines semantics start labels ≡ Some whole
  ran : state_after semantics start labels ≡ Some stage.state

run_of : (semantics : Semantics) (start : State) (labels : List Label) (whole : List (List ℕ)) (stage : Stage) → stage.closing ≡ false → Told semantics start labels whole stage → Running semantics start labels whole stage
run_of semantics start labels whole stage e (running h k) = record { told = h; ran = k }
run_of semantics start labels whole stage e (closing h) = cc

label_text : (lines sents : List (List ℕ)) (line : List ℕ) (whole : List (List ℕ)) (due : List ℕ) → lines_text whole ≡ lines_text lines ++ due → due ≡ []
    → lines_text (whole ++ (line ∷ sents)) ≡ lines_text (lines ++ line ∷ []) ++ lines_text sents
label_text lines sents line whole due h e =
    let same : lines_text whole ≡ lines_text lines = h ∙ ap (λ z. lines_text lines ++ z) e ∙ append-nil (lines_text lines) in
    due_text lines line (lines_text sents) (lines_text (whole ++ (line ∷ sents)))
    (lines_append whole (line ∷ sents) ∙ ap (λ z. z ++ lines_text (line ∷ sents)) same ∙ ap (λ z. lines_text lines ++ z) (lines_first line sents))

told_label : (semantics : Semantics) (start : State) (labels : List Label) (whole : List (List ℕ)) (new : Stage) → new.closing ≡ false → run_lines semantics start labels ≡ Some whole
    → state_after semantics start labels ≡ Some new.state → Told semantics start labels whole new
told_label semantics start labels whole new e h k =
    subst (λ c. Told semantics start labels whole (record { state = new.state; due = new.due; closing = c })) (sym e) (running h k)

told_last : (semantics : Semantics) (start : State) (labels : List Label) (whole : List (List ℕ)) (new : Stage) → new.closing ≡ true → trace_lines semantics start labels ≡ Some whole
    → Told semantics start labels whole new
told_last semantics start labels whole new e h =
    subst (λ c. Told semantics start labels whole (record { state = new.state; due = new.due; closing = c })) (sym e) (closing h)

one_ran : (semantics : Semantics) (s t : State) (l : Label) (after : After) → step semantics s l ≡ Some after → after.0 ≡ t → state_after semantics s (l ∷ []) ≡ Some t
one_ran semantics s t l after h e = rw h (ap Some e)

by_label : (semantics : Semantics) (start : State) (lines : List (List ℕ)) (line : List ℕ) (old new : Stage) → Stood semantics start lines old → TakesLabel semantics old line new
    → Stood semantics start (lines ++ line ∷ []) new
by_label semantics start lines line old new h t =
    let run = run_of semantics start h.labels h.whole old t.ready.not_closing h.told in
    let sents = map (sent_line (names_in semantics)) t.out in
    record {
      labels = h.labels ++ t.label ∷ [];
      sized = each_more _ h.labels t.label h.sized t.sized;
      whole = h.whole ++ (label_line (names_in semantics) t.label ∷ sents);
      told = told_label semantics start _ _ new t.closing
          (run_lines_more semantics start old.state h.labels (t.label ∷ []) h.whole _ run.ran run.told (one_label semantics old.state t.label (new.state, t.sends) t.out t.steps t.went))
          (state_after_more semantics start old.state new.state h.labels (t.label ∷ []) run.ran (one_ran semantics old.state new.state t.label (new.state, t.sends) t.steps refl));
      text =
          label_text lines sents (label_line (names_in semantics) t.label) h.whole old.due h.text t.ready.nothing_due
          ∙ ap (λ z. lines_text (lines ++ z ∷ []) ++ lines_text sents) (sym t.spelled) ∙ ap (λ z. lines_text (lines ++ line ∷ []) ++ z) (sym t.due);
    }

by_last : (semantics : Semantics) (start : State) (lines : List (List ℕ)) (line : List ℕ) (old new : Stage) → Stood semantics start lines old → BeginsLast semantics old line new
    → Stood semantics start (lines ++ line ∷ []) new
by_last semantics start lines line old new h b =
    let run = run_of semantics start h.labels h.whole old b.ready.not_closing h.told in
    let same : lines_text h.whole ≡ lines_text lines = h.text ∙ ap (λ z. lines_text lines ++ z) b.ready.nothing_due ∙ append-nil (lines_text lines) in
    record {
      labels = h.labels;
      sized = h.sized;
      whole = h.whole ++ last_lines semantics old.state;
      told = told_last semantics start h.labels _ new b.closing (whole_trace semantics start old.state h.labels h.whole run.told run.ran b.settled);
      text = due_text lines line new.due _ (lines_append h.whole (last_lines semantics old.state) ∙ ap (λ z. z ++ lines_text (last_lines semantics old.state)) same ∙ ap (λ z. lines_text lines ++ z) b.due);
    }

pub stood_more : (semantics : Semantics) (start : State) (lines : List (List ℕ)) (line : List ℕ) (old new : Stage) → Stood semantics start lines old → Goes semantics old line new
    → Stood semantics start (lines ++ line ∷ []) new
stood_more semantics start lines line old new h (inl p) = by_due semantics start lines line old new h p
stood_more semantics start lines line old new h (inr (inl t)) = by_label semantics start lines line old new h t
stood_more semantics start lines line old new h (inr (inr b)) = by_last semantics start lines line old new h b

-- ---- many lines

walked_from : (semantics : Semantics) (start : State) (before lines : List (List ℕ)) (old new : Stage) → Stood semantics start before old → Walks semantics old lines new
    → Stood semantics start (before ++ lines) new
walked_from semantics start before [] old new h w = subst (λ ls. Stood semantics start ls new) (sym (append-nil before)) (subst (λ x. Stood semantics start before x) w h)
walked_from semantics start before (l ∷ ls) old new h w =
    subst (λ x. Stood semantics start x new) (append_assoc before (l ∷ []) ls) (walked_from semantics start (before ++ l ∷ []) ls w.0 new (stood_more semantics start before l old w.0 h w.1) w.2)

pub walked : (semantics : Semantics) (start : State) (lines : List (List ℕ)) (stage : Stage) → Walks semantics (first_stage start) lines stage → Stood semantics start lines stage
walked semantics start lines stage w = walked_from semantics start [] lines (first_stage start) stage (stood_first semantics start) w

begins_by : (semantics : Semantics) (start : State) (lines whole : List (List ℕ)) (labels : List Label) (stage : Stage) → Each (IsSized (length semantics.processes)) labels
    → lines_text whole ≡ lines_text lines ++ stage.due → Told semantics start labels whole stage → BeginsTrace semantics start (lines_text lines)
begins_by semantics start lines whole labels stage sized text (running {due = due} h k) = record { labels = labels; sized = sized; lines = whole; told = inl h; rest = due; split = text }
begins_by semantics start lines whole labels stage sized text (closing {due = due} h) = record { labels = labels; sized = sized; lines = whole; told = inr h; rest = due; split = text }

-- lines that came in their turn begin a trace
pub begins : (semantics : Semantics) (start : State) (lines : List (List ℕ)) (stage : Stage) → Walks semantics (first_stage start) lines stage → BeginsTrace semantics start (lines_text lines)
begins semantics start lines stage w = let h = walked semantics start lines stage w in begins_by semantics start lines h.whole h.labels stage h.sized h.text h.told

-- ---- lists of lines, one behind the other

pub walks_more : (semantics : Semantics) (old middle new : Stage) (xs ys : List (List ℕ)) → Walks semantics old xs middle → Walks semantics middle ys new → Walks semantics old (xs ++ ys) new
walks_more semantics old middle new [] ys w v = subst (λ s. Walks semantics s ys new) (sym w) v
walks_more semantics old middle new (x ∷ xs) ys w v = (w.0, w.1, walks_more semantics w.0 middle new xs ys w.2 v)

pub walks_one : (semantics : Semantics) (old middle new : Stage) (lines : List (List ℕ)) (line : List ℕ) → Walks semantics old lines middle → Goes semantics middle line new → Walks semantics old (lines ++ line ∷ []) new
walks_one semantics old middle new lines line w g = walks_more semantics old middle new lines (line ∷ []) w (new, g, refl)

pub walks_cut : (semantics : Semantics) (old new : Stage) (xs ys : List (List ℕ)) → Walks semantics old (xs ++ ys) new → (middle : Stage) × Walks semantics old xs middle × Walks semantics middle ys new
walks_cut semantics old new [] ys w = (old, refl, w)
walks_cut semantics old new (x ∷ xs) ys w = let rest = walks_cut semantics w.0 new xs ys w.2 in (rest.0, (w.0, w.1, rest.1), rest.2)
