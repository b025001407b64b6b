-- A text is judged in one way.
use Rattle.std.proofs.Common.{◌≡◌, ◌≤◌, ◌<◌, ◌+◌, inl, inr, ℕ, List, [], ◌∷◌, ◌++◌, length, refl, ap, sym, subst, ◌∙◌, arith, Ok, Err, Some, append_assoc, append-nil, length-append, codes}
use Rattle.std.proofs.lemmas.List.{append_cancel_right}
use Rattle.tap_base.specs.Lists.{Each}
use Rattle.abstract_run.specs.declared.label.Label.{Label}
use Rattle.abstract_run.specs.declared.state.State.{State}
use Rattle.tap_exec.specs.Semantics.{Semantics}
use Rattle.run_text.specs.OneTrace.{IsTraceOf, most_lines}
use Rattle.run_text.specs.ScheduleText.{Lacks}
use Rattle.run_text.specs.TraceText.{last_lines, lines_text, names_in, run_lines, settled_after, trace_lines, var_lines, vars_in}
use Rattle.run_text.proofs.Options.{bound, unwrapped}
use Rattle.replay.specs.Grammar.{IsInGrammar, TellsNames}
use Rattle.replay.specs.Laws.{OneVerdict}
use Rattle.replay.specs.Stages.{Goes, HasEnded, Stage, first_stage}
use Rattle.replay.specs.Traces.{BeginsTrace, HasFront, HasNext, IsBadAt, IsBadNext, IsNoRunAt, IsTrace, IsUnended, IsWhole, behind_end, in_none, one_too_many, wanting}
use Rattle.replay.specs.declared.fault.ReplayFault.TheVariants as fault
use Rattle.replay.proofs.Ahead.{leads, leads_to_end}
use Rattle.replay.proofs.OneWay.{one_walk}
use Rattle.replay.proofs.SameFront.{Compared, Tail, behind_of, compare, longer, next_of, one_next_line, same, same_rest, shorter}
use Rattle.replay.proofs.Texts.{lines_append, lines_last}
use Rattle.replay.proofs.Unbroken.{trace_unbroken}
use Rattle.replay.proofs.Walked.{each_more, walks_cut}

-- Lines are the front of a text and begin a trace, and with no line that comes next they still do.
record Halted (semantics : Semantics) (s : State) (text : List ℕ) (lines : List (List ℕ)) (rest : List ℕ) : Type 0 where
  front : HasFront text lines rest
  unbroken : Each (Lacks 10) lines
  few : length lines ≤ most_lines
  begins : BeginsTrace semantics s (lines_text lines)
  halts : (line : List ℕ) → HasNext rest line → length lines < most_lines → BeginsTrace semantics s (lines_text (lines ++ line ∷ [])) → ⊥

-- ---- two that are halted

front_begins : (semantics : Semantics) (s : State) (xs ys : List (List ℕ)) → BeginsTrace semantics s (lines_text (xs ++ ys)) → BeginsTrace semantics s (lines_text xs)
front_begins semantics s xs ys b = record {
  labels = b.labels;
  sized = b.sized;
  lines = b.lines;
  told = b.told;
  rest = lines_text ys ++ b.rest;
  split = b.split ∙ ap (λ z. z ++ b.rest) (lines_append xs ys) ∙ append_assoc (lines_text xs) (lines_text ys) b.rest;
}

goes_past : (semantics : Semantics) (s : State) (text : List ℕ) (ls ms more : List (List ℕ)) (line q r : List ℕ) → Halted semantics s text ls q → Halted semantics s text ms r → ms ≡ ls ++ line ∷ more
    → HasNext q line → ⊥
goes_past semantics s text ls ms more line q r h k e next =
    let long = ap length e in
    let parts = length-append ls (line ∷ more) in
    let few = k.few in
    let room : length ls < most_lines = omega (arith, long, parts, few) in
    let there = subst (λ z. BeginsTrace semantics s (lines_text z)) (e ∙ sym (append_assoc ls (line ∷ []) more)) k.begins in
    h.halts line next room (front_begins semantics s (ls ++ line ∷ []) more there)

together_by : (semantics : Semantics) (s : State) (text : List ℕ) (ls ms : List (List ℕ)) (q r t u : List ℕ) → Halted semantics s text ls q → Halted semantics s text ms r → Tail text ls q t → Tail text ms r u
    → Compared ls ms t u → (ls ≡ ms) × (q ≡ r)
together_by semantics s text ls ms q r t u h k x y (same e f) = (e, same_rest text ls ms q r t u f x y)
together_by semantics s text ls ms q r t u h k x y (shorter line more e f g) =
    absurd (goes_past semantics s text ls ms more line q r h k e (next_of text ls more line q r t u f g x (subst (λ z. Tail text z r u) e y)))
together_by semantics s text ls ms q r t u h k x y (longer line more e f g) =
    absurd (goes_past semantics s text ms ls more line r q k h e (next_of text ms more line r q u t f g y (subst (λ z. Tail text z q t) e x)))

together : (semantics : Semantics) (s : State) (text : List ℕ) (ls ms : List (List ℕ)) (q r : List ℕ) → Halted semantics s text ls q → Halted semantics s text ms r → (ls ≡ ms) × (q ≡ r)
together semantics s text ls ms q r h k =
    let a = behind_of text ls q h.front in
    let b = behind_of text ms r k.front in
    together_by semantics s text ls ms q r a.tail b.tail h k a.kind b.kind (compare ls ms a.tail b.tail h.unbroken k.unbroken (sym a.split ∙ b.split))

-- ---- lines that go past the end

ended_stays : (semantics : Semantics) (old : Stage) (line : List ℕ) (next : Stage) → HasEnded old → Goes semantics old line next → ⊥
ended_stays semantics old [] next h (inl p) = let a = h.nothing_due in let b = p.due in cc
ended_stays semantics old (x ∷ line) next h (inl p) = let a = h.nothing_due in let b = p.due in cc
ended_stays semantics old line next h (inr (inl t)) = let a = h.closing in let b = t.ready.not_closing in cc
ended_stays semantics old line next h (inr (inr t)) = let a = h.closing in let b = t.ready.not_closing in cc

no_more_behind : (semantics : Semantics) (s : State) (lines : List (List ℕ)) (line : List ℕ) → TellsNames semantics → Each (Lacks 10) lines → Lacks 10 line → IsWhole semantics s (lines_text lines)
    → BeginsTrace semantics s (lines_text (lines ++ line ∷ [])) → ⊥
no_more_behind semantics s lines line tells unbroken here whole b =
    let named = tells.processes in
    let end = leads_to_end semantics s lines named unbroken whole in
    let k = leads semantics s (lines ++ line ∷ []) named (each_more _ lines line unbroken here) b in
    let c = walks_cut semantics (first_stage s) k.0 lines (line ∷ []) k.1 in
    let same_ = one_walk semantics (first_stage s) end.0 c.0 lines named end.1 c.1 in
    ended_stays semantics c.0 line c.2.0 (subst HasEnded same_ end.2) c.2.1

-- ---- each answer

halts_bad : (semantics : Semantics) (s : State) (lines : List (List ℕ)) (rest : List ℕ) → TellsNames semantics → Each (Lacks 10) lines → IsBadNext semantics s lines rest
    → (line : List ℕ) → HasNext rest line → length lines < most_lines → BeginsTrace semantics s (lines_text (lines ++ line ∷ [])) → ⊥
halts_bad semantics s lines rest tells unbroken (wanting e n) line next room b = next.some e
halts_bad semantics s lines rest tells unbroken (behind_end some w) line next room b = no_more_behind semantics s lines line tells unbroken next.unbroken w b
halts_bad semantics s lines rest tells unbroken (one_too_many some e) line next room b = omega (arith, e, room)
halts_bad semantics s lines rest tells unbroken (in_none {line = l} k none stuck) line next room b =
    stuck (subst (λ z. BeginsTrace semantics s (lines_text (lines ++ z ∷ []))) (one_next_line rest line l next k) b)

halted_bad : (semantics : Semantics) (s : State) (text : List ℕ) (number : ℕ) → TellsNames semantics → (b : IsBadAt semantics s text number) → Halted semantics s text b.lines b.rest
halted_bad semantics s text number tells b = record {
  front = b.good.front;
  unbroken = b.good.unbroken;
  few = b.good.few;
  begins = b.good.begins;
  halts = halts_bad semantics s b.lines b.rest tells b.good.unbroken b.bad;
}

halted_stuck : (semantics : Semantics) (s : State) (text : List ℕ) (number : ℕ) → (r : IsNoRunAt semantics s text number) → Halted semantics s text r.lines r.rest
halted_stuck semantics s text number r = record {
  front = r.good.front;
  unbroken = r.good.unbroken;
  few = r.good.few;
  begins = r.good.begins;
  halts = λ line next room b. r.impossible (subst (λ z. BeginsTrace semantics s (lines_text (r.lines ++ z ∷ []))) (one_next_line r.rest line r.line next r.next) b);
}

-- ---- traces

record OfTrace (semantics : Semantics) (s : State) (text : List ℕ) : Type 0 where
  lines : List (List ℕ)
  halted : Halted semantics s text lines []
  whole : IsWhole semantics s (lines_text lines)

of_trace_by : (semantics : Semantics) (s : State) (text bytes : List ℕ) (labels : List Label) → TellsNames semantics → (t : IsTraceOf semantics s labels bytes) → HasFront text t.lines [] → OfTrace semantics s text
of_trace_by semantics s text bytes labels tells t front = record {
  lines = t.lines;
  halted = record {
    front = front;
    unbroken = trace_unbroken semantics s labels t.lines tells t.sized t.told;
    few = t.few;
    begins = record { labels = labels; sized = t.sized; lines = t.lines; told = inr t.told; rest = []; split = sym (append-nil (lines_text t.lines)) };
    halts = λ line next room b. next.some refl;
  };
  whole = (labels, record { lines = t.lines; told = t.told; sized = t.sized; few = t.few; text = refl });
}

-- a trace without its last line feed ends in a letter
unended_trace : (semantics : Semantics) (s : State) (text : List ℕ) (labels : List Label) (lines : List (List ℕ)) → trace_lines semantics s labels ≡ Some lines → text ++ 10 ∷ [] ≡ lines_text lines → IsUnended text
unended_trace semantics s text labels lines h e =
    let a = bound (run_lines semantics s labels) _ lines h in
    let b = bound (settled_after semantics s labels) (λ last. Some (a.x ++ last_lines semantics last)) lines a.then_ in
    let vars = a.x ++ var_lines (names_in semantics) (vars_in semantics) b.x.stores in
    let is : lines ≡ vars ++ codes "end" ∷ [] = unwrapped _ _ b.then_ ∙ sym (append_assoc a.x (var_lines (names_in semantics) (vars_in semantics) b.x.stores) (codes "end" ∷ [])) in
    let split : text ++ 10 ∷ [] ≡ (lines_text vars ++ codes "end") ++ 10 ∷ [] = e ∙ ap lines_text is ∙ lines_last vars (codes "end") ∙ sym (append_assoc (lines_text vars) (codes "end") (10 ∷ [])) in
    record {
      front = lines_text vars ++ codes "en";
      last = 100;
      split = append_cancel_right text (lines_text vars ++ codes "end") (10 ∷ []) split ∙ sym (append_assoc (lines_text vars) (codes "en") (100 ∷ []));
      other = λ f. omega (arith, f);
    }

of_trace : (semantics : Semantics) (s : State) (text : List ℕ) → TellsNames semantics → IsTrace semantics s text → OfTrace semantics s text
of_trace semantics s text tells (inl w) = of_trace_by semantics s text text w.0 tells w.1 (inl (w.1.text ∙ sym (append-nil (lines_text w.1.lines))))
of_trace semantics s text tells (inr w) = of_trace_by semantics s text (text ++ 10 ∷ []) w.0 tells w.1 (inr (refl, unended_trace semantics s text w.0 w.1.lines w.1.told w.1.text, w.1.text))

-- ---- answers that exclude each other

not_bad : (semantics : Semantics) (s : State) (ls ms : List (List ℕ)) (rest : List ℕ) → ls ≡ ms → [] ≡ rest → IsWhole semantics s (lines_text ls) → IsBadNext semantics s ms rest → ⊥
not_bad semantics s ls ms rest e f w (wanting a n) = n (subst (λ z. IsWhole semantics s (lines_text z)) e w)
not_bad semantics s ls ms rest e f w (behind_end some x) = some (sym f)
not_bad semantics s ls ms rest e f w (one_too_many some x) = some (sym f)
not_bad semantics s ls ms rest e f w (in_none next none stuck) = next.some (sym f)

trace_not_bad : (semantics : Semantics) (s : State) (text : List ℕ) (number : ℕ) → TellsNames semantics → IsTrace semantics s text → IsBadAt semantics s text number → ⊥
trace_not_bad semantics s text number tells t b =
    let o = of_trace semantics s text tells t in
    let e = together semantics s text o.lines b.lines [] b.rest o.halted (halted_bad semantics s text number tells b) in
    not_bad semantics s o.lines b.lines b.rest e.0 e.1 o.whole b.bad

trace_not_stuck : (semantics : Semantics) (s : State) (text : List ℕ) (number : ℕ) → TellsNames semantics → IsTrace semantics s text → IsNoRunAt semantics s text number → ⊥
trace_not_stuck semantics s text number tells t r =
    let o = of_trace semantics s text tells t in
    let e = together semantics s text o.lines r.lines [] r.rest o.halted (halted_stuck semantics s text number r) in
    r.next.some (sym e.1)

not_stuck : (semantics : Semantics) (s : State) (ls : List (List ℕ)) (q : List ℕ) (text : List ℕ) (number : ℕ) (r : IsNoRunAt semantics s text number) → ls ≡ r.lines → q ≡ r.rest → IsBadNext semantics s ls q → ⊥
not_stuck semantics s ls q text number r e f (wanting a n) = r.next.some (sym f ∙ a)
not_stuck semantics s ls q text number r e f (behind_end some w) = r.goes_on (subst (λ z. IsWhole semantics s (lines_text z)) e w)
not_stuck semantics s ls q text number r e f (one_too_many some x) = let long = ap length e in let room = r.room in omega (arith, long, room, x)
not_stuck semantics s ls q text number r e f (in_none {line = l} next none stuck) =
    let line = one_next_line r.rest r.line l r.next (subst (λ z. HasNext z l) f next) in
    let there = subst (IsInGrammar semantics) line r.spelled in
    none there.0 there.1 there.2

bad_not_stuck : (semantics : Semantics) (s : State) (text : List ℕ) (m n : ℕ) → TellsNames semantics → IsBadAt semantics s text m → IsNoRunAt semantics s text n → ⊥
bad_not_stuck semantics s text m n tells b r =
    let e = together semantics s text b.lines r.lines b.rest r.rest (halted_bad semantics s text m tells b) (halted_stuck semantics s text n r) in
    not_stuck semantics s b.lines b.rest text n r e.0 e.1 b.bad

counted : (ls ms : List (List ℕ)) (m n : ℕ) → ls ≡ ms → m ≡ length ls + 1 → n ≡ length ms + 1 → m ≡ n
counted ls ms m n e f g = f ∙ ap (λ (z : List (List ℕ)). length z + 1) e ∙ sym g

one_bad : (semantics : Semantics) (s : State) (text : List ℕ) (m n : ℕ) → TellsNames semantics → IsBadAt semantics s text m → IsBadAt semantics s text n → m ≡ n
one_bad semantics s text m n tells a b =
    let e = together semantics s text a.lines b.lines a.rest b.rest (halted_bad semantics s text m tells a) (halted_bad semantics s text n tells b) in
    counted a.lines b.lines m n e.0 a.count b.count

one_stuck : (semantics : Semantics) (s : State) (text : List ℕ) (m n : ℕ) → IsNoRunAt semantics s text m → IsNoRunAt semantics s text n → m ≡ n
one_stuck semantics s text m n a b =
    let e = together semantics s text a.lines b.lines a.rest b.rest (halted_stuck semantics s text m a) (halted_stuck semantics s text n b) in
    counted a.lines b.lines m n e.0 a.count b.count

pub one_verdict : OneVerdict
one_verdict semantics s text (Ok x) (Ok y) tells h k p q = refl
one_verdict semantics s text (Ok x) (Err (fault.BadLine n)) tells h k p q = absurd (trace_not_bad semantics s text n tells h k)
one_verdict semantics s text (Ok x) (Err (fault.NotARun n)) tells h k p q = absurd (trace_not_stuck semantics s text n tells h k)
one_verdict semantics s text (Ok x) (Err fault.ReadFault) tells h k p q = absurd q
one_verdict semantics s text (Ok x) (Err fault.NoMemory) tells h k p q = absurd q
one_verdict semantics s text (Err (fault.BadLine m)) (Ok y) tells h k p q = absurd (trace_not_bad semantics s text m tells k h)
one_verdict semantics s text (Err (fault.BadLine m)) (Err (fault.BadLine n)) tells h k p q = ap (λ z. Err (fault.BadLine z)) (one_bad semantics s text m n tells h k)
one_verdict semantics s text (Err (fault.BadLine m)) (Err (fault.NotARun n)) tells h k p q = absurd (bad_not_stuck semantics s text m n tells h k)
one_verdict semantics s text (Err (fault.BadLine m)) (Err fault.ReadFault) tells h k p q = absurd q
one_verdict semantics s text (Err (fault.BadLine m)) (Err fault.NoMemory) tells h k p q = absurd q
one_verdict semantics s text (Err (fault.NotARun m)) (Ok y) tells h k p q = absurd (trace_not_stuck semantics s text m tells k h)
one_verdict semantics s text (Err (fault.NotARun m)) (Err (fault.BadLine n)) tells h k p q = absurd (bad_not_stuck semantics s text n m tells k h)
one_verdict semantics s text (Err (fault.NotARun m)) (Err (fault.NotARun n)) tells h k p q = ap (λ z. Err (fault.NotARun z)) (one_stuck semantics s text m n h k)
one_verdict semantics s text (Err (fault.NotARun m)) (Err fault.ReadFault) tells h k p q = absurd q
one_verdict semantics s text (Err (fault.NotARun m)) (Err fault.NoMemory) tells h k p q = absurd q
one_verdict semantics s text (Err fault.ReadFault) b tells h k p q = absurd p
one_verdict semantics s text (Err fault.NoMemory) b tells h k p q = absurd p
