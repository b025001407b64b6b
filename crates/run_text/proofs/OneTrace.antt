-- Bytes are the trace of at most one list of labels.
use Rattle.std.proofs.Common.{◌≡◌, ◌≢◌, ◌<◌, ◌⊎◌, inl, inr, ℕ, ℤ, List, [], ◌∷◌, ◌++◌, map, length, take, drop, get_or, refl, ap, sym, subst, ◌∙◌, arith, Some, append_assoc, codes}
use Rattle.std.specs.Prelude.{flat_map}
use Rattle.std.specs.Fmt.{signed_decimal}
use Rattle.std.proofs.lemmas.Grind.{flat_map-append}
use Rattle.std.proofs.lemmas.List.{append_cancel_left, length-map}
use Rattle.tap_base.specs.Lists.{Each}
use Rattle.tap_base.proofs.ListFacts.{each_append}
use Rattle.tap_base.specs.Option.{each}
use Rattle.abstract_run.specs.declared.label.Label.{Label}
use Rattle.abstract_run.specs.declared.label.Label.TheVariants as label
use Rattle.abstract_run.specs.declared.state.State.{State}
use Rattle.tap_exec.specs.Semantics.{Semantics}
use Rattle.abstract_run.specs.Step.{step}
use Rattle.run_text.specs.declared.names.VarName.{VarName}
use Rattle.run_text.specs.Names.{AreNames}
use Rattle.run_text.specs.OneTrace.{IsTraceOf, OneTrace}
use Rattle.run_text.specs.Sized.{IsSized}
use Rattle.run_text.specs.TraceText.{datagram, label_line, last_lines, lines_text, names_in, run_lines, sent_line, settled_after, var_lines, vars_in, vars_of, went_out}
use Rattle.run_text.proofs.LineLabels.{line_unbroken, one_line}
use Rattle.run_text.proofs.LineWords.{lines_split}
use Rattle.run_text.proofs.Options.{bound, some_same, unwrapped}
use Rattle.run_text.proofs.RunLines.{one_step}

-- ---- texts of lines

-- the text of the lines of a step, and what is behind them
step_text : (names : List (List ℕ)) (l : Label) (sents more lines : List (List ℕ)) (tail : List ℕ) → lines ≡ label_line names l ∷ (sents ++ more)
    → lines_text lines ++ tail ≡ label_line names l ++ 10 ∷ (lines_text sents ++ (lines_text more ++ tail))
step_text names l sents more lines tail e =
    ap (λ z. lines_text z ++ tail) e
    ∙ append_assoc (label_line names l ++ 10 ∷ []) (lines_text (sents ++ more)) tail
    ∙ append_assoc (label_line names l) (10 ∷ []) (lines_text (sents ++ more) ++ tail)
    ∙ ap (λ t. label_line names l ++ 10 ∷ (t ++ tail)) (flat_map-append (λ l. l ++ 10 ∷ []) sents more)
    ∙ ap (λ t. label_line names l ++ 10 ∷ t) (append_assoc (lines_text sents) (lines_text more) tail)

-- ---- what stands behind the labels

-- the text begins as the lines of the variables do, or as the end does
abbrev EndsLabels : List ℕ → Type 0
EndsLabels text = (get_or text 0 0 ≡ 101) ⊎ ((get_or text 0 0 ≡ 118) × (get_or text 1 0 ≡ 97))

abbrev Differs : List ℕ → Type 0
Differs text = (get_or text 0 0 ≢ 101) × (get_or text 0 0 ≡ 118 → get_or text 1 0 ≢ 97)

no_label : (names : List (List ℕ)) (l : Label) (rest : List ℕ) → Differs (label_line names l ++ rest)
no_label names (label.Tick p c) rest = (λ e. omega (arith, e), λ e. omega (arith, e))
no_label names (label.Reject q p i) rest = (λ e. omega (arith, e), λ e. omega (arith, e))
no_label names (label.Act p a choices) rest = (λ e. omega (arith, e), λ e. omega (arith, e))
no_label names (label.Idle p) rest = (λ e. omega (arith, e), λ e. omega (arith, e))
no_label names (label.Flood p) rest = (λ e. omega (arith, e), λ e. omega (arith, e))
no_label names (label.Arrive q p) rest = (λ e. omega (arith, e), λ e. omega (arith, e))
no_label names (label.Lose q p i) rest = (λ e. omega (arith, e), λ e. omega (arith, e))
no_label names (label.Copy q p i) rest = (λ e. omega (arith, e), λ e. omega (arith, e))
no_label names (label.Move q p i j) rest = (λ e. omega (arith, e), λ e. omega (arith, e))
no_label names (label.Damage q p i bytes) rest = (λ e. omega (arith, e), λ e. omega (arith, e))
no_label names (label.Forge q p bytes) rest = (λ e. omega (arith, e), λ e. omega (arith, e))
no_label names (label.Cut p n) rest = (λ e. omega (arith, e), λ e. omega (arith, e))
no_label names (label.Stop p receivers) rest = (λ e. omega (arith, e), λ e. omega (arith, e))
no_label names (label.Down p) rest = (λ e. omega (arith, e), λ e. omega (arith, e))
no_label names label.Void rest = (λ e. omega (arith, e), λ e. λ f. omega (arith, f))

apart : (text : List ℕ) → EndsLabels text → Differs text → ⊥
apart text (inl e) d = d.0 e
apart text (inr e) d = d.1 e.0 e.1

not_ended : (names : List (List ℕ)) (l : Label) (rest text : List ℕ) → EndsLabels text → text ≡ label_line names l ++ rest → ⊥
not_ended names l rest text ends same = apart text ends (subst Differs (sym same) (no_label names l rest))

abbrev IsVarStart : List ℕ → Type 0
IsVarStart l = (get_or l 0 0 ≡ 118) × (get_or l 1 0 ≡ 97) × (1 < length l)

lines_end : (lines : List (List ℕ)) → Each IsVarStart lines → EndsLabels (lines_text (lines ++ codes "end" ∷ []))
lines_end [] h = inl refl
lines_end (l ∷ ls) h = first l (lines_text (ls ++ codes "end" ∷ [])) h.0 where
  first : (l rest : List ℕ) → (get_or l 0 0 ≡ 118) × (get_or l 1 0 ≡ 97) × (1 < length l) → EndsLabels ((l ++ 10 ∷ []) ++ rest)
  first [] rest h = absurd (omega (arith, h.2))
  first (a ∷ []) rest h = absurd (omega (arith, h.2))
  first (a ∷ b ∷ l) rest h = inr (h.0, h.1)

longer : (xs : List ℕ) → 1 < length (118 ∷ 97 ∷ xs)
longer xs = omega arith

vars_start : (process : List ℕ) (vars : List VarName) (cells : List ℤ) → Each IsVarStart (vars_of process vars cells)
vars_start process [] cells = tt
vars_start process (v ∷ vs) cells = ((refl, refl, longer (114 ∷ flat_map (λ w. 32 ∷ w) (process ∷ v.text ∷ map signed_decimal (take v.cells cells)))), vars_start process vs (drop v.cells cells))

all_vars_start : (names : List (List ℕ)) (vars : List (List VarName)) (stores : List (List ℤ)) → Each IsVarStart (var_lines names vars stores)
all_vars_start [] [] [] = tt
all_vars_start [] [] (cells ∷ stores) = tt
all_vars_start [] (own ∷ vars) [] = tt
all_vars_start [] (own ∷ vars) (cells ∷ stores) = tt
all_vars_start (n ∷ names) [] [] = tt
all_vars_start (n ∷ names) [] (cells ∷ stores) = tt
all_vars_start (n ∷ names) (own ∷ vars) [] = tt
all_vars_start (n ∷ names) (own ∷ vars) (cells ∷ stores) =
    each_append IsVarStart (vars_of n own cells) (var_lines names vars stores) (vars_start n own cells) (all_vars_start names vars stores)

ending : (semantics : Semantics) (s : State) → EndsLabels (lines_text (last_lines semantics s))
ending semantics s = lines_end _ (all_vars_start (names_in semantics) (vars_in semantics) s.stores)

-- ---- the labels are found again, one after the other

none_more : (lines : List (List ℕ)) (tail rest : List ℕ) → Some [] ≡ Some lines → lines_text lines ++ tail ≡ rest → tail ≡ rest
none_more lines tail rest h e = let k : lines ≡ [] = cc in ap (λ z. lines_text z ++ tail) (sym k) ∙ e

same_from : (semantics : Semantics) (s : State) (ls ms : List Label) (x y : List (List ℕ)) (tail more : List ℕ) → AreNames (names_in semantics)
    → Each (IsSized (length (names_in semantics))) ls → Each (IsSized (length (names_in semantics))) ms → EndsLabels tail → EndsLabels more
    → run_lines semantics s ls ≡ Some x → run_lines semantics s ms ≡ Some y → lines_text x ++ tail ≡ lines_text y ++ more → ls ≡ ms
same_from semantics s [] [] x y tail more named sized fits ends over h k same = refl
same_from semantics s [] (m ∷ ms) x y tail more named sized fits ends over h k same =
    let names = names_in semantics in
    let b = one_step semantics s m ms y k in
    absurd (not_ended names m _ tail ends (none_more x tail _ h (same ∙ step_text names m (map (sent_line names) b.out) b.more y more b.is)))
same_from semantics s (l ∷ ls) [] x y tail more named sized fits ends over h k same =
    let names = names_in semantics in
    let a = one_step semantics s l ls x h in
    absurd (not_ended names l _ more over (none_more y more _ k (sym same ∙ step_text names l (map (sent_line names) a.out) a.more x tail a.is)))
same_from semantics s (l ∷ ls) (m ∷ ms) x y tail more named sized fits ends over h k same =
    let names = names_in semantics in
    let a = one_step semantics s l ls x h in
    let b = one_step semantics s m ms y k in
    let first = step_text names l (map (sent_line names) a.out) a.more x tail a.is in
    let other = step_text names m (map (sent_line names) b.out) b.more y more b.is in
    let parts = lines_split (label_line names l) (label_line names m) _ _ (line_unbroken names l named.0 sized.0) (line_unbroken names m named.0 fits.0) (sym first ∙ same ∙ other) in
    let label_same = one_line names l m named sized.0 fits.0 parts.0 in
    let after_same = some_same (step semantics s m) a.after b.after (subst (λ z. step semantics s z ≡ Some a.after) label_same a.stepped) b.stepped in
    let out_same = some_same (each (datagram semantics) (went_out b.after)) a.out b.out (subst (λ z. each (datagram semantics) (went_out z) ≡ Some a.out) after_same a.sent) b.sent in
    let rest_same =
    append_cancel_left (lines_text (map (sent_line names) b.out)) (lines_text a.more ++ tail) (lines_text b.more ++ more)
    (ap (λ z. lines_text (map (sent_line names) z) ++ (lines_text a.more ++ tail)) (sym out_same) ∙ parts.1) in
    ap (λ z. z ∷ ls) label_same
    ∙ ap (λ zs. m ∷ zs)
    (same_from semantics b.after.0 ls ms a.more b.more tail more named sized.1 fits.1 ends over (subst (λ z. run_lines semantics z.0 ls ≡ Some a.more) after_same a.rest) b.rest rest_same)

-- ---- whole traces

record Traced (semantics : Semantics) (s : State) (ls : List Label) (bytes : List ℕ) : Type 0 where
  lines : List (List ℕ)
  told : run_lines semantics s ls ≡ Some lines
  last : State
  is : bytes ≡ lines_text lines ++ lines_text (last_lines semantics last)

traced : (semantics : Semantics) (s : State) (ls : List Label) (bytes : List ℕ) → IsTraceOf semantics s ls bytes → Traced semantics s ls bytes
traced semantics s ls bytes t =
    let a = bound _ _ t.lines t.told in
    let b = bound (settled_after semantics s ls) (λ last. Some (a.x ++ last_lines semantics last)) t.lines a.then_ in
    record {
      lines = a.x;
      told = a.from;
      last = b.x;
      is = t.text ∙ ap lines_text (unwrapped _ _ b.then_) ∙ flat_map-append (λ l. l ++ 10 ∷ []) a.x (last_lines semantics b.x);
    }

pub one_trace : OneTrace
one_trace semantics s bytes ls ms named h k =
    let n = sym (length-map semantics.processes (λ p. p.name)) in
    let a = traced semantics s ls bytes h in
    let b = traced semantics s ms bytes k in
    same_from semantics s ls ms a.lines b.lines _ _ named (subst (λ z. Each (IsSized z) ls) n h.sized) (subst (λ z. Each (IsSized z) ms) n k.sized)
    (ending semantics a.last) (ending semantics b.last) a.told b.told (sym a.is ∙ b.is)
