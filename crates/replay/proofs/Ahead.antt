-- Lines that begin a trace come each in its turn.
use Rattle.std.proofs.Common.{◌≡◌, ◌⊎◌, inl, inr, ℕ, Bool, true, false, List, [], ◌∷◌, ◌++◌, map, length, refl, ap, sym, subst, ◌∙◌, Option, Some, None, append_assoc, append-nil, codes, arith, length-append}
use Rattle.std.specs.Prelude.{is_none}
use Rattle.tap_base.specs.Lists.{Each}
use Rattle.tap_base.specs.Option.{provided}
use Rattle.abstract_run.specs.declared.label.Label.{Label}
use Rattle.abstract_run.specs.declared.state.Falling.{Falling}
use Rattle.abstract_run.specs.declared.state.State.{State}
use Rattle.tap_exec.specs.Semantics.{Semantics}
use Rattle.run_text.specs.Names.{AreNames}
use Rattle.run_text.specs.ScheduleText.{Lacks}
use Rattle.run_text.specs.Sized.{IsSized}
use Rattle.run_text.specs.TraceText.{label_line, last_lines, lines_text, names_in, run_lines, sent_line, settled_after, trace_lines, var_lines, vars_in}
use Rattle.run_text.proofs.LineLabels.{line_unbroken}
use Rattle.run_text.proofs.LineWords.{lines_split}
use Rattle.run_text.proofs.Options.{bound, unwrapped}
use Rattle.run_text.proofs.RunLines.{Stepped, one_step}
use Rattle.replay.specs.Stages.{Goes, HasEnded, Stage, first_stage}
use Rattle.replay.specs.Traces.{BeginsTrace, IsWhole}
use Rattle.replay.specs.inner.Progress.{Walks}
use Rattle.replay.proofs.OneWay.{sized_names}
use Rattle.replay.proofs.Texts.{IsEnded, cut, ended_behind, ended_lines, lines_append, lines_first, lines_last}

-- ---- what comes behind a stage

-- what the lines are that come behind those that are due: those of a run, or those of its trace
pub data Coming (semantics : Semantics) (traced : Bool) (labels : List Label) (more : List (List ℕ)) : Stage → Type 0 where
  run : {s : State} {due : List ℕ} → traced ≡ false → run_lines semantics s labels ≡ Some more → Coming semantics traced labels more (record { state = s; due = due; closing = false })
  trace : {s : State} {due : List ℕ} → traced ≡ true → trace_lines semantics s labels ≡ Some more → Coming semantics traced labels more (record { state = s; due = due; closing = false })
  closed : {s : State} {due : List ℕ} → traced ≡ true → more ≡ [] → Coming semantics traced labels more (record { state = s; due = due; closing = true })

-- The text is what can come behind a stage.
pub record Comes (semantics : Semantics) (traced : Bool) (stage : Stage) (text : List ℕ) : Type 0 where
  pub labels : List Label
  pub sized : Each (IsSized (length semantics.processes)) labels
  pub more : List (List ℕ)
  pub told : Coming semantics traced labels more stage
  pub is : text ≡ stage.due ++ lines_text more
  pub ended : IsEnded stage.due

-- a line that comes next, and what comes behind it
pub record Next (semantics : Semantics) (traced : Bool) (old : Stage) (line rest : List ℕ) : Type 0 where
  pub stage : Stage
  pub goes : Goes semantics old line stage
  pub comes : Comes semantics traced stage rest

-- ---- lines that are due

with_due : (semantics : Semantics) (traced : Bool) (labels : List Label) (more : List (List ℕ)) (s : State) (closing : Bool) (old new : List ℕ)
    → Coming semantics traced labels more (record { state = s; due = old; closing = closing }) → Coming semantics traced labels more (record { state = s; due = new; closing = closing })
with_due semantics traced labels more s closing old new (run e h) = run e h
with_due semantics traced labels more s closing old new (trace e h) = trace e h
with_due semantics traced labels more s closing old new (closed e h) = closed e h

by_due : (semantics : Semantics) (traced : Bool) (s : State) (x : ℕ) (xs : List ℕ) (closing : Bool) (labels : List Label) (more : List (List ℕ)) (line rest : List ℕ)
    → Each (IsSized (length semantics.processes)) labels → Coming semantics traced labels more (record { state = s; due = x ∷ xs; closing = closing }) → IsEnded (x ∷ xs) → Lacks 10 line
    → x ∷ xs ++ lines_text more ≡ line ++ 10 ∷ rest → Next semantics traced (record { state = s; due = x ∷ xs; closing = closing }) line rest
by_due semantics traced s x xs closing labels more line rest sized told ended whole text =
    let c = cut x xs ended in
    let parts = lines_split c.line line (c.behind ++ lines_text more) rest c.unbroken whole (sym (append_assoc c.line (10 ∷ c.behind) (lines_text more)) ∙ ap (λ z. z ++ lines_text more) (sym c.is) ∙ text) in
    record {
      stage = record { state = s; due = c.behind; closing = closing };
      goes = inl (record { due = c.is ∙ ap (λ z. z ++ 10 ∷ c.behind) parts.0; state = refl; closing = refl });
      comes = record {
        labels = labels;
        sized = sized;
        more = more;
        told = with_due semantics traced labels more s closing (x ∷ xs) c.behind told;
        is = sym parts.1;
        ended = ended_behind c.line c.behind (subst IsEnded c.is ended);
      };
    }

-- ---- labels

label_text : (names : List (List ℕ)) (l : Label) (sents behind more : List (List ℕ)) (line rest : List ℕ) → more ≡ label_line names l ∷ (sents ++ behind) → lines_text more ≡ line ++ 10 ∷ rest
    → label_line names l ++ 10 ∷ (lines_text sents ++ lines_text behind) ≡ line ++ 10 ∷ rest
label_text names l sents behind more line rest is text =
    ap (λ z. label_line names l ++ 10 ∷ z) (sym (lines_append sents behind)) ∙ sym (lines_first (label_line names l) (sents ++ behind)) ∙ ap lines_text (sym is) ∙ text

by_label : (semantics : Semantics) (traced : Bool) (s : State) (l : Label) (ls : List Label) (more lines behind : List (List ℕ)) (line rest : List ℕ) → AreNames (names_in semantics)
    → IsSized (length semantics.processes) l → Each (IsSized (length semantics.processes)) ls → (h : Stepped semantics s l ls lines)
    → Coming semantics traced ls behind (record { state = h.after.0; due = lines_text (map (sent_line (names_in semantics)) h.out); closing = false })
    → more ≡ label_line (names_in semantics) l ∷ (map (sent_line (names_in semantics)) h.out ++ behind) → Lacks 10 line → lines_text more ≡ line ++ 10 ∷ rest
    → Next semantics traced (first_stage s) line rest
by_label semantics traced s l ls more lines behind line rest named sized others h told is whole text =
    let names = names_in semantics in
    let sents = map (sent_line names) h.out in
    let parts = lines_split (label_line names l) line (lines_text sents ++ lines_text behind) rest (line_unbroken names l named.0 (sized_names semantics l sized)) whole
    (label_text names l sents behind more line rest is text) in
    record {
      stage = record { state = h.after.0; due = lines_text sents; closing = false };
      goes = inr (inl (record {
        ready = record { nothing_due = refl; not_closing = refl };
        label = l;
        sized = sized;
        spelled = sym parts.0;
        sends = h.after.1;
        steps = h.stepped;
        out = h.out;
        went = h.sent;
        due = refl;
        closing = refl;
      }));
      comes = record { labels = ls; sized = others; more = behind; told = told; is = sym parts.1; ended = ended_lines sents };
    }

-- ---- the last lines

none_left : (P : Type 0) (line rest : List ℕ) → [] ≡ line ++ 10 ∷ rest → P
none_left P [] rest e = cc
none_left P (x ∷ xs) rest e = cc

none_more : (P : Type 0) (more : List (List ℕ)) (line rest : List ℕ) → more ≡ [] → lines_text more ≡ line ++ 10 ∷ rest → P
none_more P more line rest e text = none_left P line rest (ap lines_text (sym e) ∙ text)

settled_is : (s t : State) (f : Option Falling) → s.falling ≡ f → provided (is_none f) s ≡ Some t → (s.falling ≡ None) × (t ≡ s)
settled_is s t None e h = (e, cc)
settled_is s t (Some f) e h = cc

by_last : (semantics : Semantics) (traced : Bool) (s : State) (more : List (List ℕ)) (line rest : List ℕ) → traced ≡ true → s.falling ≡ None → more ≡ last_lines semantics s
    → lines_text more ≡ line ++ 10 ∷ rest → Next semantics traced (first_stage s) line rest
by_last semantics traced s more line rest t settled is text =
    let due : lines_text (last_lines semantics s) ≡ line ++ 10 ∷ rest = ap lines_text (sym is) ∙ text in
    record {
      stage = record { state = s; due = rest; closing = true };
      goes = inr (inr (record { ready = record { nothing_due = refl; not_closing = refl }; settled = settled; due = due; state = refl; closing = refl }));
      comes = record {
        labels = [];
        sized = tt;
        more = [];
        told = closed t refl;
        is = sym (append-nil rest);
        ended = ended_behind line rest (subst IsEnded due (ended_lines (last_lines semantics s)));
      };
    }

-- what the lines of a trace are made of
record Traced (semantics : Semantics) (s : State) (labels : List Label) (more : List (List ℕ)) : Type 0 where
  lines : List (List ℕ)
  told : run_lines semantics s labels ≡ Some lines
  last : State
  settled : settled_after semantics s labels ≡ Some last
  is : more ≡ lines ++ last_lines semantics last

traced_of : (semantics : Semantics) (s : State) (labels : List Label) (more : List (List ℕ)) → trace_lines semantics s labels ≡ Some more → Traced semantics s labels more
traced_of semantics s labels more h =
    let a = bound (run_lines semantics s labels) _ more h in
    let b = bound (settled_after semantics s labels) (λ last. Some (a.x ++ last_lines semantics last)) more a.then_ in
    record { lines = a.x; told = a.from; last = b.x; settled = b.from; is = unwrapped _ _ b.then_ }

settled_on : (semantics : Semantics) (s last : State) (l : Label) (ls : List Label) (lines : List (List ℕ)) (h : Stepped semantics s l ls lines) → settled_after semantics s (l ∷ ls) ≡ Some last
    → settled_after semantics h.after.0 ls ≡ Some last
settled_on semantics s last l ls lines h k = rw h.stepped at k

by_run : (semantics : Semantics) (traced : Bool) (s : State) (labels : List Label) (more : List (List ℕ)) (line rest : List ℕ) → AreNames (names_in semantics)
    → Each (IsSized (length semantics.processes)) labels → traced ≡ false → run_lines semantics s labels ≡ Some more → Lacks 10 line → lines_text more ≡ line ++ 10 ∷ rest
    → Next semantics traced (first_stage s) line rest
by_run semantics traced s [] more line rest named sized t h whole text = none_more _ more line rest (unwrapped [] more h) text
by_run semantics traced s (l ∷ ls) more line rest named sized t h whole text =
    let st = one_step semantics s l ls more h in
    by_label semantics traced s l ls more more st.more line rest named sized.0 sized.1 st (run t st.rest) st.is whole text

by_trace : (semantics : Semantics) (traced : Bool) (s : State) (labels : List Label) (more : List (List ℕ)) (line rest : List ℕ) → AreNames (names_in semantics)
    → Each (IsSized (length semantics.processes)) labels → traced ≡ true → Traced semantics s labels more → Lacks 10 line → lines_text more ≡ line ++ 10 ∷ rest
    → Next semantics traced (first_stage s) line rest
by_trace semantics traced s [] more line rest named sized t h whole text =
    let fell = settled_is s h.last s.falling refl h.settled in
    by_last semantics traced s more line rest t fell.0 (h.is ∙ ap (λ ls. ls ++ last_lines semantics h.last) (unwrapped [] h.lines h.told) ∙ ap (last_lines semantics) fell.1) text
by_trace semantics traced s (l ∷ ls) more line rest named sized t h whole text =
    let st = one_step semantics s l ls h.lines h.told in
    let last = last_lines semantics h.last in
    let sents = map (sent_line (names_in semantics)) st.out in
    let settled = settled_on semantics s h.last l ls h.lines st h.settled in
    let told : trace_lines semantics st.after.0 ls ≡ Some (st.more ++ last) = rw (st.rest, settled) refl in
    by_label semantics traced s l ls more h.lines (st.more ++ last) line rest named sized.0 sized.1 st (trace t told)
    (h.is ∙ ap (λ z. z ++ last) st.is ∙ ap (λ z. label_line (names_in semantics) l ∷ z) (append_assoc sents st.more last)) whole text

-- ---- any line

ready : (semantics : Semantics) (traced : Bool) (s : State) (closing : Bool) (labels : List Label) (more : List (List ℕ)) (line rest : List ℕ) → AreNames (names_in semantics)
    → Each (IsSized (length semantics.processes)) labels → Coming semantics traced labels more (record { state = s; due = []; closing = closing }) → Lacks 10 line → lines_text more ≡ line ++ 10 ∷ rest
    → Next semantics traced (record { state = s; due = []; closing = closing }) line rest
ready semantics traced s closing labels more line rest named sized (run t h) whole text = by_run semantics traced s labels more line rest named sized t h whole text
ready semantics traced s closing labels more line rest named sized (trace t h) whole text = by_trace semantics traced s labels more line rest named sized t (traced_of semantics s labels more h) whole text
ready semantics traced s closing labels more line rest named sized (closed t h) whole text = none_more _ more line rest h text

ahead : (semantics : Semantics) (traced : Bool) (s : State) (due : List ℕ) (closing : Bool) (labels : List Label) (more : List (List ℕ)) (line rest : List ℕ) → AreNames (names_in semantics)
    → Each (IsSized (length semantics.processes)) labels → Coming semantics traced labels more (record { state = s; due = due; closing = closing }) → IsEnded due → Lacks 10 line
    → due ++ lines_text more ≡ line ++ 10 ∷ rest → Next semantics traced (record { state = s; due = due; closing = closing }) line rest
ahead semantics traced s [] closing labels more line rest named sized told ended whole text = ready semantics traced s closing labels more line rest named sized told whole text
ahead semantics traced s (x ∷ xs) closing labels more line rest named sized told ended whole text = by_due semantics traced s x xs closing labels more line rest sized told ended whole text

pub next : (semantics : Semantics) (traced : Bool) (old : Stage) (line rest : List ℕ) → AreNames (names_in semantics) → Lacks 10 line → Comes semantics traced old (line ++ 10 ∷ rest) → Next semantics traced old line rest
next semantics traced old line rest named whole h = ahead semantics traced old.state old.due old.closing h.labels h.more line rest named h.sized h.told h.ended whole (sym h.is)

-- ---- many lines

-- lines that come, and what comes behind them
pub record Reached (semantics : Semantics) (traced : Bool) (old : Stage) (lines : List (List ℕ)) (rest : List ℕ) : Type 0 where
  pub stage : Stage
  pub walks : Walks semantics old lines stage
  pub comes : Comes semantics traced stage rest

reached : (semantics : Semantics) (traced : Bool) (old : Stage) (lines : List (List ℕ)) (rest : List ℕ) → AreNames (names_in semantics) → Each (Lacks 10) lines
    → Comes semantics traced old (lines_text lines ++ rest) → Reached semantics traced old lines rest
reached semantics traced old [] rest named whole h = record { stage = old; walks = refl; comes = h }
reached semantics traced old (l ∷ ls) rest named whole h =
    let text : lines_text (l ∷ ls) ++ rest ≡ l ++ 10 ∷ (lines_text ls ++ rest) = ap (λ z. z ++ rest) (lines_first l ls) ∙ append_assoc l (10 ∷ lines_text ls) rest in
    let n = next semantics traced old l (lines_text ls ++ rest) named whole.0 (subst (Comes semantics traced old) text h) in
    let r = reached semantics traced n.stage ls rest named whole.1 n.comes in
    record { stage = r.stage; walks = (n.stage, n.goes, r.walks); comes = r.comes }

comes_first : (semantics : Semantics) (start : State) (labels : List Label) (lines : List (List ℕ)) (text : List ℕ) → Each (IsSized (length semantics.processes)) labels → lines_text lines ≡ text
    → (run_lines semantics start labels ≡ Some lines) ⊎ (trace_lines semantics start labels ≡ Some lines) → (traced : Bool) × Comes semantics traced (first_stage start) text
comes_first semantics start labels lines text sized is (inl h) = (false, record { labels = labels; sized = sized; more = lines; told = run refl h; is = sym is; ended = tt })
comes_first semantics start labels lines text sized is (inr h) = (true, record { labels = labels; sized = sized; more = lines; told = trace refl h; is = sym is; ended = tt })

-- lines that begin a trace lead to a stage
pub leads : (semantics : Semantics) (start : State) (lines : List (List ℕ)) → AreNames (names_in semantics) → Each (Lacks 10) lines → BeginsTrace semantics start (lines_text lines)
    → (stage : Stage) × Walks semantics (first_stage start) lines stage
leads semantics start lines named whole b =
    let c = comes_first semantics start b.labels b.lines (lines_text lines ++ b.rest) b.sized b.split b.told in
    let r = reached semantics c.0 (first_stage start) lines b.rest named whole c.1 in
    (r.stage, r.walks)

-- ---- whole traces

none_before : (due more : List ℕ) → [] ≡ due ++ more → (due ≡ []) × (more ≡ [])
none_before [] more e = (refl, sym e)
none_before (x ∷ xs) more e = cc

some_text : (P : Type 0) (ls : List (List ℕ)) (l : List ℕ) → lines_text (ls ++ l ∷ []) ≡ [] → P
some_text P ls l e =
    let long : length (lines_text ls ++ (l ++ 10 ∷ [])) ≡ 0 = ap length (sym (lines_last ls l) ∙ e) in
    absurd (omega (arith, long, length-append (lines_text ls) (l ++ 10 ∷ []), length-append l (10 ∷ [])))

ended_by : (semantics : Semantics) (labels : List Label) (more : List (List ℕ)) (stage : Stage) → Coming semantics true labels more stage → stage.due ≡ [] → lines_text more ≡ [] → HasEnded stage
ended_by semantics labels more stage (run t h) e none = cc
ended_by semantics labels more stage (closed t h) e none = record { nothing_due = e; closing = refl }
ended_by semantics labels more stage (trace {s = s} t h) e none =
    let a = traced_of semantics s labels more h in
    let vars = var_lines (names_in semantics) (vars_in semantics) a.last.stores in
    some_text _ (a.lines ++ vars) (codes "end") (ap lines_text (append_assoc a.lines vars (codes "end" ∷ []) ∙ sym a.is) ∙ none)

-- the lines of a whole trace lead to an end
pub leads_to_end : (semantics : Semantics) (start : State) (lines : List (List ℕ)) → AreNames (names_in semantics) → Each (Lacks 10) lines → IsWhole semantics start (lines_text lines)
    → (stage : Stage) × Walks semantics (first_stage start) lines stage × HasEnded stage
leads_to_end semantics start lines named whole w =
    let t = w.1 in
    let h : Comes semantics true (first_stage start) (lines_text lines ++ []) = record {
      labels = w.0;
      sized = t.sized;
      more = t.lines;
      told = trace refl t.told;
      is = append-nil (lines_text lines) ∙ t.text;
      ended = tt;
    } in
    let r = reached semantics true (first_stage start) lines [] named whole h in
    let parts = none_before r.stage.due (lines_text r.comes.more) r.comes.is in
    (r.stage, r.walks, ended_by semantics r.comes.labels r.comes.more r.stage r.comes.told parts.0 parts.1)
