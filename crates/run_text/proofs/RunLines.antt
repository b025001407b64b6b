-- The lines of labels from a state on: of the first and those behind it, of some and others behind them, and of a whole
-- trace.
use Rattle.std.proofs.Common.{◌≡◌, ℕ, List, [], ◌∷◌, ◌++◌, map, refl, ap, sym, subst, ◌∙◌, Some, None, append_assoc, append-nil}
use Rattle.std.specs.Prelude.{flat_map}
use Rattle.std.specs.Option.{option_map}
use Rattle.tap_base.specs.Option.{each}
use Rattle.abstract_run.specs.declared.label.Label.{Label}
use Rattle.abstract_run.specs.declared.state.State.{State}
use Rattle.abstract_run.specs.Run.{state_after}
use Rattle.tap_exec.specs.Semantics.{Semantics}
use Rattle.abstract_run.specs.Step.{After, step}
use Rattle.run_text.specs.TraceText.{Datagram, datagram, label_line, last_lines, lines_with, names_in, run_lines, sent_line, trace_lines, went_out, with_sents}
use Rattle.run_text.proofs.Options.{bound, mapped, some_same, unwrapped}

-- what the lines of a label and of those behind it are made of
pub record Stepped (semantics : Semantics) (s : State) (l : Label) (ls : List Label) (lines : List (List ℕ)) : Type 0 where
  pub after : After
  pub stepped : step semantics s l ≡ Some after
  pub out : List Datagram
  pub sent : each (datagram semantics) (went_out after) ≡ Some out
  pub more : List (List ℕ)
  pub rest : run_lines semantics after.0 ls ≡ Some more
  pub is : lines ≡ label_line (names_in semantics) l ∷ (map (sent_line (names_in semantics)) out ++ more)

pub one_step : (semantics : Semantics) (s : State) (l : Label) (ls : List Label) (lines : List (List ℕ)) → run_lines semantics s (l ∷ ls) ≡ Some lines → Stepped semantics s l ls lines
one_step semantics s l ls lines h =
    let all = mapped (with_sents semantics s (l ∷ ls)) _ lines h in
    let a = bound _ _ all.x all.from in
    let b = bound _ _ all.x a.then_ in
    let c = bound (with_sents semantics a.x.0 ls) (λ more. Some ((l, b.x) ∷ more)) all.x b.then_ in
    record {
      after = a.x;
      stepped = a.from;
      out = b.x;
      sent = b.from;
      more = flat_map (lines_with (names_in semantics)) c.x;
      rest = ap (λ o. option_map (flat_map (lines_with (names_in semantics))) o) c.from;
      is = sym all.is ∙ ap (λ xs. flat_map (lines_with (names_in semantics)) xs) (unwrapped _ _ c.then_);
    }

-- the lines of a label, of what went out with it, and of the labels behind it
pub step_and_more : (semantics : Semantics) (s : State) (l : Label) (ls : List Label) (after : After) (out : List Datagram) (more : List (List ℕ)) → step semantics s l ≡ Some after
    → each (datagram semantics) (went_out after) ≡ Some out → run_lines semantics after.0 ls ≡ Some more
    → run_lines semantics s (l ∷ ls) ≡ Some (label_line (names_in semantics) l ∷ (map (sent_line (names_in semantics)) out ++ more))
step_and_more semantics s l ls after out more stepped sent rest =
    let m = mapped (with_sents semantics after.0 ls) _ more rest in
    rw (stepped, sent, m.from) (ap (λ z. Some (label_line (names_in semantics) l ∷ (map (sent_line (names_in semantics)) out ++ z))) m.is)

-- the lines of one label, and of what went out with it
pub one_label : (semantics : Semantics) (s : State) (l : Label) (after : After) (out : List Datagram) → step semantics s l ≡ Some after → each (datagram semantics) (went_out after) ≡ Some out
    → run_lines semantics s (l ∷ []) ≡ Some (label_line (names_in semantics) l ∷ map (sent_line (names_in semantics)) out)
one_label semantics s l after out stepped sent =
    step_and_more semantics s l [] after out [] stepped sent refl ∙ ap (λ z. Some (label_line (names_in semantics) l ∷ z)) (append-nil (map (sent_line (names_in semantics)) out))

-- the lines of labels, and of others behind them
pub run_lines_more : (semantics : Semantics) (s t : State) (xs ys : List Label) (a b : List (List ℕ)) → state_after semantics s xs ≡ Some t → run_lines semantics s xs ≡ Some a
    → run_lines semantics t ys ≡ Some b → run_lines semantics s (xs ++ ys) ≡ Some (a ++ b)
run_lines_more semantics s t [] ys a b ran h k =
    subst (λ x. run_lines semantics x ys ≡ Some (a ++ b)) (unwrapped s t ran) (k ∙ ap (λ z. Some (z ++ b)) (sym (unwrapped [] a h)))
run_lines_more semantics s t (l ∷ xs) ys a b ran h k =
    let here = one_step semantics s l xs a h in
    let r = bound (step semantics s l) _ t ran in
    let same = some_same (step semantics s l) r.x here.after r.from here.stepped in
    let rest = run_lines_more semantics here.after.0 t xs ys here.more b (subst (λ z. state_after semantics z.0 xs ≡ Some t) same r.then_) here.rest k in
    let sents = map (sent_line (names_in semantics)) here.out in
    step_and_more semantics s l (xs ++ ys) here.after here.out (here.more ++ b) here.stepped here.sent rest
    ∙ ap Some (ap (λ z. label_line (names_in semantics) l ∷ z) (sym (append_assoc sents here.more b)) ∙ ap (λ z. z ++ b) (sym here.is))

-- the lines of a trace are those of its labels and the last ones
pub whole_trace : (semantics : Semantics) (s t : State) (labels : List Label) (lines : List (List ℕ)) → run_lines semantics s labels ≡ Some lines → state_after semantics s labels ≡ Some t
    → t.falling ≡ None → trace_lines semantics s labels ≡ Some (lines ++ last_lines semantics t)
whole_trace semantics s t labels lines told ran settled = rw (told, ran, settled) refl
