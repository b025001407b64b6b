-- How many labels and datagrams answer events at most.
use Rattle.std.proofs.Common.{◌≡◌, ℕ, ◌+◌, ◌*◌, ◌≤◌, List, [], ◌∷◌, map, flat_map, Option, Some, length, ap, arith, length-append}
use Rattle.std.specs.Option.{option_map}
use Rattle.std.proofs.lemmas.List.{length-map}
use Rattle.tap_base.specs.Option.{each}
use Rattle.tap_exec.specs.Semantics.{Semantics}
use Rattle.abstract_run.specs.Answers.{Answers}
use Rattle.abstract_run.specs.Fits.{Fits}
use Rattle.abstract_run.specs.Safe.{BodiesKeepRanges}
use Rattle.abstract_run.specs.Step.{step}
use Rattle.abstract_run.specs.declared.label.Event.{Event}
use Rattle.abstract_run.specs.declared.label.Label.{Label}
use Rattle.abstract_run.specs.declared.state.State.{State}
use Rattle.run_text.specs.FewLines.{most_lines_of_event}
use Rattle.run_text.specs.TraceText.{Datagram, datagram, lines_with, names_in, sent_line, went_out, with_sents}
use Rattle.run_text.proofs.FewLines.{few_lines_for_each}
use Rattle.run_text.proofs.Options.{bound, unwrapped}

-- as many values as elements, where each has one
pub as_many : {A B : Type 0} (f : A → Option B) (xs : List A) (ys : List B) → each f xs ≡ Some ys → length ys ≡ length xs
as_many f [] ys h = ap length (unwrapped [] ys h)
as_many f (x ∷ xs) ys h =
    let first = bound (f x) _ ys h in
    let others = bound (each f xs) (λ zs. Some (first.x ∷ zs)) ys first.then_ in
    let e = ap length (unwrapped _ _ others.then_) in
    let rest = as_many f xs others.x others.from in
    omega (arith, e, rest)

-- as many pairs as labels
pairs_counted : (m : Semantics) (s : State) (ls : List Label) (pairs : List (Label × List Datagram)) → with_sents m s ls ≡ Some pairs → length pairs ≡ length ls
pairs_counted m s [] pairs h = ap length (unwrapped [] pairs h)
pairs_counted m s (l ∷ ls) pairs h =
    let after = bound (step m s l) _ pairs h in
    let out = bound (each (datagram m) (went_out after.x)) _ pairs after.then_ in
    let more = bound (with_sents m after.x.0 ls) (λ ps. Some ((l, out.x) ∷ ps)) pairs out.then_ in
    let e = ap length (unwrapped _ _ more.then_) in
    let rest = pairs_counted m after.x.0 ls more.x more.from in
    omega (arith, e, rest)

-- a line for each label and each datagram
lines_counted : (names : List (List ℕ)) (pairs : List (Label × List Datagram)) → length (flat_map (lines_with names) pairs) ≡ length pairs + length (flat_map (λ (x : Label × List Datagram). x.1) pairs)
lines_counted names [] = omega arith
lines_counted names (x ∷ xs) =
    let rest = lines_counted names xs in
    let lines = length-append (map (sent_line names) x.1) (flat_map (lines_with names) xs) in
    let sents = length-append x.1 (flat_map (λ (y : Label × List Datagram). y.1) xs) in
    omega (arith, rest, lines, sents, length-map x.1 (sent_line names))

-- the labels that answer events, and what goes out with them, are few
pub few_counted : (m : Semantics) (s t : State) (es : List Event) (ls : List Label) (pairs : List (Label × List Datagram)) → BodiesKeepRanges m → Fits m s → Answers m s es ls t → with_sents m s ls ≡ Some pairs
    → length ls + length (flat_map (λ (x : Label × List Datagram). x.1) pairs) ≤ length es * most_lines_of_event
few_counted m s t es ls pairs keeps fits answers shown =
    let lines = flat_map (lines_with (names_in m)) pairs in
    let few = few_lines_for_each m s t es ls lines keeps fits answers (ap (λ o. option_map (flat_map (lines_with (names_in m))) o) shown) in
    omega (arith, few, lines_counted (names_in m) pairs, pairs_counted m s ls pairs shown)
