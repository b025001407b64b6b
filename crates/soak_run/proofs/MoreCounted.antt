-- Tallies that go on.
use Rattle.std.proofs.Common.{◌≡◌, ℕ, ◌+◌, ◌≤◌, List, [], ◌++◌, Some, length, filter, flat_map, Bool, refl, ap, sym, ◌∙◌, arith, length-append}
use Rattle.std.proofs.lemmas.Grind.{flat_map-append}
use Rattle.std.proofs.lemmas.List.Elements.{filter-append}
use Rattle.std.proofs.lemmas.List.Sums.{count_by-le-length, length-filter}
use Rattle.tap_exec.specs.Semantics.{Semantics}
use Rattle.abstract_run.specs.declared.label.Label.{Label}
use Rattle.abstract_run.specs.declared.state.State.{State}
use Rattle.run_text.specs.TraceText.{Datagram, with_sents}
use Rattle.soak_run.specs.Counted.{IsTallyOf, is_act, is_idle, is_reject, is_void}
use Rattle.soak_run.specs.declared.tally.Tally.{Tally}
use Rattle.soak_run.specs.inner.Counting.{counted, nothing}

-- ---- of one kind

pub few_of_kind : (kind : Label → Bool) (ls : List Label) → length (filter kind ls) ≤ length ls
few_of_kind kind ls = omega (arith, length-filter kind ls, count_by-le-length kind ls)

-- ---- of a run

-- the tally of no labels
pub none_counted : (m : Semantics) (s : State) → IsTallyOf m s [] nothing
none_counted m s = record { acts = refl; rejects = refl; idles = refl; voids = refl; pairs = []; shown = refl; sents = refl }

-- labels of a run, and others behind them
pub tally_more : (m : Semantics) (s : State) (xs ys : List Label) (old : Tally) (pairs : List (Label × List Datagram)) (sents : ℕ) → (h : IsTallyOf m s xs old) → with_sents m s (xs ++ ys) ≡ Some (h.pairs ++ pairs)
    → sents ≡ length (flat_map (λ (x : Label × List Datagram). x.1) pairs) → IsTallyOf m s (xs ++ ys) (counted old ys sents)
tally_more m s xs ys old pairs sents h shown is = record {
  acts = ap (λ n. n + length (filter is_act ys)) h.acts ∙ sym (joined is_act);
  rejects = ap (λ n. n + length (filter is_reject ys)) h.rejects ∙ sym (joined is_reject);
  idles = ap (λ n. n + length (filter is_idle ys)) h.idles ∙ sym (joined is_idle);
  voids = ap (λ n. n + length (filter is_void ys)) h.voids ∙ sym (joined is_void);
  pairs = h.pairs ++ pairs;
  shown = shown;
  sents =
      let before = h.sents in
      let all = ap length (flat_map-append (λ (x : Label × List Datagram). x.1) h.pairs pairs) in
      omega (arith, before, is, all, length-append (flat_map (λ (x : Label × List Datagram). x.1) h.pairs) (flat_map (λ (x : Label × List Datagram). x.1) pairs));
} where
  joined : (kind : Label → Bool) → length (filter kind (xs ++ ys)) ≡ length (filter kind xs) + length (filter kind ys)
  joined kind = ap length (filter-append kind xs ys) ∙ length-append (filter kind xs) (filter kind ys)
