-- How many lines the trace of a schedule has.
use Rattle.std.proofs.Common.{◌≡◌, ◌≢◌, ◌≤◌, ◌⊎◌, ◌+◌, ◌-◌, ◌*◌, ◌&&◌, ℕ, ℤ, Bool, true, false, if◌then◌else◌, List, [], ◌∷◌, ◌++◌, map, length, drop, slice_get, refl, ap, sym, subst, ◌∙◌, inl, inr, arith, Option, Some, None, append_assoc, length-append, length-take}
use Rattle.std.proofs.lemmas.List.{length-map}
use Rattle.std.specs.Prelude.{codes}
use Rattle.std.proofs.lemmas.Option.{cond_some}
use Rattle.tap_base.specs.Lists.{Each}
use Rattle.tap_base.specs.Option.{each}
use Rattle.tap_exec.specs.declared.running.Outgoing.{Outgoing}
use Rattle.abstract_run.specs.declared.label.Event.{Event}
use Rattle.abstract_run.specs.declared.label.Event.TheVariants as event
use Rattle.abstract_run.specs.declared.label.Label.{Label}
use Rattle.abstract_run.specs.declared.label.Label.TheVariants as label
use Rattle.abstract_run.specs.declared.state.Falling.{Falling}
use Rattle.abstract_run.specs.declared.state.State.{State}
use Rattle.abstract_run.specs.Answers.{Answers, EndsTurn, IsLiveTurn, IsRejectOf, IsSegment, IsTurn, cut_off, down, fell, flood, idle, live, ran}
use Rattle.abstract_run.specs.Fits.{Fits}
use Rattle.abstract_run.specs.Kept.{AreFitSends}
use Rattle.abstract_run.specs.Run.{state_after}
use Rattle.abstract_run.specs.Safe.{BodiesKeepRanges, most_vars}
use Rattle.tap_exec.specs.Semantics.{ProcessSemantics, Semantics}
use Rattle.tap_exec.specs.Execution.{is_empty}
use Rattle.abstract_run.specs.Step.{After, fallen, is_live, is_zero, put_down, step, stopped}
use Rattle.run_text.specs.declared.names.VarName.{VarName}
use Rattle.run_text.specs.FewLines.{FewLines, FewLinesForEach, most_lines_of_event}
use Rattle.run_text.specs.TraceText.{last_lines, names_in, run_lines, sent_line, settled_after, taken_back, var_lines, var_name, vars_in, vars_of, went_out}
use Rattle.abstract_run.proofs.Acted.{is_both}
use Rattle.abstract_run.proofs.Kept.{Rows, fallen_by, falls, row_of, settled, steps_keep}
use Rattle.run_text.proofs.Options.{bound, mapped, some_same, unwrapped}
use Rattle.run_text.proofs.RunLines.{one_step}

-- ---- the lines of one label

-- how many lines a label has at most: its own, and those of what an action sends
abbrev weight : Label → ℕ
weight (label.Act p a choices) = 65
weight _ = 1

weighs : (semantics : Semantics) (l : Label) (sends : List Outgoing) → AreFitSends semantics l sends → length sends + 1 ≤ weight l
weighs semantics (label.Tick p c) sends h = let e = ap length h in omega (arith, e)
weighs semantics (label.Reject q p i) sends h = let e = ap length h in omega (arith, e)
weighs semantics (label.Act p a choices) sends h = omega (arith, h.0)
weighs semantics (label.Idle p) sends h = let e = ap length h in omega (arith, e)
weighs semantics (label.Flood p) sends h = let e = ap length h in omega (arith, e)
weighs semantics (label.Arrive q p) sends h = let e = ap length h in omega (arith, e)
weighs semantics (label.Lose q p i) sends h = let e = ap length h in omega (arith, e)
weighs semantics (label.Copy q p i) sends h = let e = ap length h in omega (arith, e)
weighs semantics (label.Move q p i j) sends h = let e = ap length h in omega (arith, e)
weighs semantics (label.Damage q p i bytes) sends h = let e = ap length h in omega (arith, e)
weighs semantics (label.Forge q p bytes) sends h = let e = ap length h in omega (arith, e)
weighs semantics (label.Cut p n) sends h = let e = ap length h in omega (arith, e)
weighs semantics (label.Stop p receivers) sends h = let e = ap length h in omega (arith, e)
weighs semantics (label.Down p) sends h = let e = ap length h in omega (arith, e)
weighs semantics label.Void sends h = let e = ap length h in omega (arith, e)

as_many : {A B : Type 0} (f : A → Option B) (xs : List A) (ys : List B) → each f xs ≡ Some ys → length ys ≡ length xs
as_many f [] ys h = ap length (unwrapped [] ys h)
as_many f (x ∷ xs) ys h =
    let first = bound (f x) _ ys h in
    let others = bound (each f xs) (λ zs. Some (first.x ∷ zs)) ys first.then_ in
    let e = ap length (unwrapped _ _ others.then_) in
    let rest = as_many f xs others.x others.from in
    omega (arith, e, rest)

-- ---- the lines of labels

abbrev weights : List Label → ℕ
weights [] = 0
weights (l ∷ ls) = weight l + weights ls

-- What labels leave behind them has at most so many lines.
abbrev FewBehind : Semantics → State → List Label → ℕ → Type 0
FewBehind semantics s ls n = (more : List (List ℕ)) → Fits semantics s → run_lines semantics s ls ≡ Some more → length more ≤ n

-- the lines of labels and of others behind them, which are few
front_weighs : (semantics : Semantics) (s t : State) (ls rest : List Label) (lines : List (List ℕ)) (n : ℕ) → BodiesKeepRanges semantics → Fits semantics s → state_after semantics s ls ≡ Some t
    → run_lines semantics s (ls ++ rest) ≡ Some lines → FewBehind semantics t rest n → length lines ≤ weights ls + n
front_weighs semantics s t [] rest lines n keeps fits goes told few =
    let same : s ≡ t = cc in
    let all = few lines (subst (Fits semantics) same fits) (subst (λ x. run_lines semantics x rest ≡ Some lines) same told) in
    omega (arith, all)
front_weighs semantics s t (l ∷ ls) rest lines n keeps fits goes told few =
    let names = names_in semantics in
    let a = one_step semantics s l (ls ++ rest) lines told in
    let kept = steps_keep semantics s a.after.0 l a.after.1 keeps fits a.stepped in
    let here = weighs semantics l a.after.1 kept.sent in
    let r = bound (step semantics s l) _ t goes in
    let same = some_same (step semantics s l) r.x a.after r.from a.stepped in
    let more = front_weighs semantics a.after.0 t ls rest a.more n keeps kept.fits (subst (λ (z : After). state_after semantics z.0 ls ≡ Some t) same r.then_) a.rest few in
    let counted = as_many _ (went_out a.after) a.out a.sent in
    let out : length (went_out a.after) ≤ length a.after.1 = omega (arith, length-take {A = Outgoing}) in
    let lines_are = ap length a.is in
    omega (arith, here, more, counted, out, lines_are, length-append (map (sent_line names) a.out) a.more, length-map a.out (sent_line names))

-- a stop that takes sends back comes behind the action whose cut fell
stops_fallen : (semantics : Semantics) (s : State) (p : ℕ) (rs : List ℕ) (after : After) → rs ≢ [] → step semantics s (label.Stop p rs) ≡ Some after → (f : Falling) × (s.falling ≡ Some f) × (f.receivers ≡ rs)
stops_fallen semantics s p rs after some e = by_row (row_of semantics s (label.Stop p rs) after e) where
  empty : (xs : List ℕ) → is_empty xs ≡ true → xs ≡ []
  empty [] h = refl
  empty (x ∷ xs) h = cc

  by_row : Rows semantics s (label.Stop p rs) after → (f : Falling) × (s.falling ≡ Some f) × (f.receivers ≡ rs)
  by_row (settled is h) =
      let t = mapped (stopped s p rs) _ after h in
      let x = cond_some (is_live s p && is_zero (slice_get s.cuts p) && is_empty rs) (put_down s p) t.x t.from in
      absurd (some (empty rs (is_both (is_live s p && is_zero (slice_get s.cuts p)) (is_empty rs) x.0).1))
  by_row (falls f is h) = let t = mapped (fallen s f p rs) _ after h in (f, is, (fallen_by s t.x f p rs t.from).receivers)

-- the lines of an action whose cut fell, of the stop, and of what comes behind
fall_weighs : (semantics : Semantics) (s t : State) (p a n : ℕ) (choices : List ℤ) (receivers : List ℕ) (rest : List Label) (lines : List (List ℕ)) → BodiesKeepRanges semantics → Fits semantics s → receivers ≢ []
    → state_after semantics s (label.Act p a choices ∷ label.Stop p receivers ∷ []) ≡ Some t → run_lines semantics s (label.Act p a choices ∷ label.Stop p receivers ∷ rest) ≡ Some lines
    → FewBehind semantics t rest n → length lines ≤ 65 + n
fall_weighs semantics s t p a n choices receivers rest lines keeps fits some goes told few =
    let names = names_in semantics in
    let one = one_step semantics s (label.Act p a choices) (label.Stop p receivers ∷ rest) lines told in
    let kept = steps_keep semantics s one.after.0 (label.Act p a choices) one.after.1 keeps fits one.stepped in
    let r = bound (step semantics s (label.Act p a choices)) _ t goes in
    let same = some_same (step semantics s (label.Act p a choices)) r.x one.after r.from one.stepped in
    let ran_on = subst (λ (z : After). state_after semantics z.0 (label.Stop p receivers ∷ []) ≡ Some t) same r.then_ in
    let behind = front_weighs semantics one.after.0 t (label.Stop p receivers ∷ []) rest one.more n keeps kept.fits ran_on one.rest few in
    let stop = bound (step semantics one.after.0 (label.Stop p receivers)) _ t ran_on in
    let fallen = stops_fallen semantics one.after.0 p receivers stop.x some stop.from in
    let back : length (taken_back one.after.0.falling) ≡ length receivers = ap (λ o. length (taken_back o)) fallen.1 ∙ ap length fallen.2 in
    let counted = as_many _ (went_out one.after) one.out one.sent in
    let out = length-take {A = Outgoing} (length one.after.1 - length (taken_back one.after.0.falling)) one.after.1 in
    let one_at_least = has_one receivers some in
    let few_sends : length one.after.1 ≤ 64 = kept.sent.0 in
    let lines_are = ap length one.is in
    omega (arith, behind, back, counted, out, one_at_least, few_sends, lines_are, length-append (map (sent_line names) one.out) one.more, length-map one.out (sent_line names)) where
      has_one : (xs : List ℕ) → xs ≢ [] → 1 ≤ length xs
      has_one [] h = absurd (h refl)
      has_one (x ∷ xs) h = omega arith

-- ---- the labels of one event

rejects_weigh : (p : ℕ) (ls : List Label) → Each (IsRejectOf p) ls → weights ls ≡ length ls
rejects_weigh p [] h = refl
rejects_weigh p (l ∷ ls) h = let e = ap weight h.0.2 in let rest = rejects_weigh p ls h.1 in omega (arith, e, rest)

-- the run behind some first labels
run_behind : (semantics : Semantics) (s t u : State) (xs ys : List Label) → state_after semantics s xs ≡ Some t → state_after semantics s (xs ++ ys) ≡ Some u → state_after semantics t ys ≡ Some u
run_behind semantics s t u [] ys h k = let same : s ≡ t = cc in subst (λ x. state_after semantics x ys ≡ Some u) same k
run_behind semantics s t u (l ∷ xs) ys h k =
    let a = bound (step semantics s l) _ t h in
    let b = bound (step semantics s l) _ u k in
    let same = some_same (step semantics s l) b.x a.x b.from a.from in
    run_behind semantics a.x.0 t u xs ys a.then_ (subst (λ (z : After). state_after semantics z.0 (xs ++ ys) ≡ Some u) same b.then_)

end_weighs : (semantics : Semantics) (s t : State) (p k n : ℕ) (last rest : List Label) (lines : List (List ℕ)) → BodiesKeepRanges semantics → Fits semantics s → EndsTurn p k last
    → state_after semantics s last ≡ Some t → run_lines semantics s (last ++ rest) ≡ Some lines → FewBehind semantics t rest n → length lines ≤ 65 + n
end_weighs semantics s t p k n last rest lines keeps fits (ran {a} {choices}) goes told few = front_weighs semantics s t (label.Act p a choices ∷ []) rest lines n keeps fits goes told few
end_weighs semantics s t p k n last rest lines keeps fits (fell {a} {choices} {receivers} some) goes told few = fall_weighs semantics s t p a n choices receivers rest lines keeps fits some goes told few
end_weighs semantics s t p k n last rest lines keeps fits (idle less) goes told few = let all = front_weighs semantics s t (label.Idle p ∷ []) rest lines n keeps fits goes told few in omega (arith, all)
end_weighs semantics s t p k n last rest lines keeps fits (flood full) goes told few = let all = front_weighs semantics s t (label.Flood p ∷ []) rest lines n keeps fits goes told few in omega (arith, all)

live_weighs : (semantics : Semantics) (s t : State) (p c n : ℕ) (labels rest : List Label) (lines : List (List ℕ)) → BodiesKeepRanges semantics → Fits semantics s → IsLiveTurn semantics s p c labels
    → state_after semantics s labels ≡ Some t → run_lines semantics s (labels ++ rest) ≡ Some lines → FewBehind semantics t rest n → length lines ≤ most_lines_of_event + n
live_weighs semantics s t p c n labels rest lines keeps fits turn goes told few =
    let front = label.Tick p c ∷ turn.rejects in
    let split : labels ++ rest ≡ front ++ (turn.last ++ rest) = ap (λ ls. ls ++ rest) turn.whole ∙ append_assoc front turn.last rest in
    let ends = run_behind semantics s turn.middle t front turn.last turn.rejected (ap (state_after semantics s) (sym turn.whole) ∙ goes) in
    let all = front_weighs semantics s turn.middle front (turn.last ++ rest) lines (65 + n) keeps fits turn.rejected (ap (run_lines semantics s) (sym split) ∙ told)
    (λ more fit rest_told. end_weighs semantics turn.middle t p (length turn.rejects) n turn.last rest more keeps fit turn.ends ends rest_told few) in
    let rejects = rejects_weigh p turn.rejects turn.of_process in
    let at_most = turn.at_most in
    omega (arith, all, rejects, at_most)

-- labels that weigh no more than an event
plain_weighs : (semantics : Semantics) (s t : State) (n : ℕ) (labels rest : List Label) (lines : List (List ℕ)) → BodiesKeepRanges semantics → Fits semantics s → weights labels ≤ most_lines_of_event
    → state_after semantics s labels ≡ Some t → run_lines semantics s (labels ++ rest) ≡ Some lines → FewBehind semantics t rest n → length lines ≤ most_lines_of_event + n
plain_weighs semantics s t n labels rest lines keeps fits light goes told few = let all = front_weighs semantics s t labels rest lines n keeps fits goes told few in omega (arith, all, light)

one_weighs : (b : Bool) (l : Label) (labels : List Label) → weight l ≡ 1 → labels ≡ (if b then l else label.Void) ∷ [] → weights labels ≤ most_lines_of_event
one_weighs true l labels h e = let w = ap weights e in omega (arith, w, h)
one_weighs false l labels h e = let w = ap weights e in omega (arith, w)

-- an event is a turn of a live process, or its labels weigh little
light_or_live : (semantics : Semantics) (s : State) (e : Event) (labels : List Label) → IsSegment semantics s e labels
    → (weights labels ≤ most_lines_of_event) ⊎ ((p c : ℕ) × IsLiveTurn semantics s p c labels)
light_or_live semantics s (event.Turn p c) labels (down is) = inl (omega arith)
light_or_live semantics s (event.Turn p c) labels (cut_off up none (inl is)) = let e = ap weights is in inl (omega (arith, e))
light_or_live semantics s (event.Turn p c) labels (cut_off up none (inr is)) = let e = ap weights is.1.2 in inl (omega (arith, e))
light_or_live semantics s (event.Turn p c) labels (live up cut some turn) = inr (p, c, turn)
light_or_live semantics s (event.Arrive q p) labels is = inl (one_weighs _ (label.Arrive q p) labels refl is)
light_or_live semantics s (event.Lose q p i) labels is = inl (one_weighs _ (label.Lose q p i) labels refl is)
light_or_live semantics s (event.Copy q p i) labels is = inl (one_weighs _ (label.Copy q p i) labels refl is)
light_or_live semantics s (event.Move q p i j) labels is = inl (one_weighs _ (label.Move q p i j) labels refl is)
light_or_live semantics s (event.Damage q p i bytes) labels is = inl (one_weighs _ (label.Damage q p i bytes) labels refl is)
light_or_live semantics s (event.Forge q p bytes) labels is = let w = ap weights is in inl (omega (arith, w))
light_or_live semantics s (event.Cut p n) labels is = let w = ap weights is in inl (omega (arith, w))

segment_weighs : (semantics : Semantics) (s t : State) (e : Event) (n : ℕ) (labels rest : List Label) (lines : List (List ℕ)) → BodiesKeepRanges semantics → Fits semantics s → IsSegment semantics s e labels
    → state_after semantics s labels ≡ Some t → run_lines semantics s (labels ++ rest) ≡ Some lines → FewBehind semantics t rest n → length lines ≤ most_lines_of_event + n
segment_weighs semantics s t e n labels rest lines keeps fits is goes told few = elim (light_or_live semantics s e labels is) [
  | inl light ↦ plain_weighs semantics s t n labels rest lines keeps fits light goes told few
  | inr turn ↦ live_weighs semantics s t turn.0 turn.1 n labels rest lines keeps fits turn.2 goes told few
]

-- ---- the labels of a schedule

pub few_lines_for_each : FewLinesForEach
few_lines_for_each semantics s t [] labels lines keeps fits answers told =
    let none = unwrapped [] lines (ap (run_lines semantics s) (sym answers.0) ∙ told) in
    let e = ap length none in omega (arith, e)
few_lines_for_each semantics s t (e ∷ es) labels lines keeps fits answers told =
    let segment = answers.0 in
    let rest = answers.1 in
    let serves = answers.4 in
    let all = segment_weighs semantics s answers.2 e (length es * most_lines_of_event) segment rest lines keeps fits serves.segment serves.ran (ap (run_lines semantics s) (sym answers.3) ∙ told)
    (λ more fit rest_told. few_lines_for_each semantics answers.2 t es rest more keeps fit answers.5 rest_told) in
    omega (arith, all)

-- ---- the lines behind them

as_many_vars : (process : List ℕ) (vars : List VarName) (cells : List ℤ) → length (vars_of process vars cells) ≡ length vars
as_many_vars process [] cells = refl
as_many_vars process (v ∷ vs) cells = let rest = as_many_vars process vs (drop v.cells cells) in omega (arith, rest)

few_vars : (ps : List ProcessSemantics) (stores : List (List ℤ)) → Each (λ p. length p.vars ≤ most_vars) ps
    → length (var_lines (map (λ p. p.name) ps) (map (λ p. map var_name p.vars) ps) stores) ≤ length ps * most_vars
few_vars [] [] h = omega arith
few_vars [] (cells ∷ stores) h = omega arith
few_vars (p ∷ ps) [] h = omega arith
few_vars (p ∷ ps) (cells ∷ stores) h =
    let own = as_many_vars p.name (map var_name p.vars) cells in
    let rest = few_vars ps stores h.1 in
    let both = length-append (vars_of p.name (map var_name p.vars) cells) (var_lines (map (λ p. p.name) ps) (map (λ p. map var_name p.vars) ps) stores) in
    let here = h.0 in
    omega (arith, own, rest, both, here, length-map p.vars var_name)

pub few_lines : FewLines
few_lines semantics s t events labels lines begins keeps fits few answers told =
    let a = bound (run_lines semantics s labels) _ lines told in
    let b = bound (settled_after semantics s labels) (λ last. Some (a.x ++ last_lines semantics last)) lines a.then_ in
    let front = few_lines_for_each semantics s t events labels a.x keeps fits answers a.from in
    let vars = few_vars semantics.processes b.x.stores begins.few_vars in
    let whole = ap length (unwrapped _ _ b.then_) in
    let lasting = length-append a.x (last_lines semantics b.x) in
    let ending = length-append (var_lines (names_in semantics) (vars_in semantics) b.x.stores) (codes "end" ∷ []) in
    let processes = begins.few in
    omega (arith, front, vars, whole, lasting, ending, processes, few)
