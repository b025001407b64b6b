-- No other is among registers where the number of others does not rise.
use Rattle.std.proofs.Common.{◌≡◌, ◌+◌, ◌<◌, ◌≤◌, ◌==◌, ℕ, zero, suc, Bool, true, false, cond, get_or, List, [], ◌∷◌, ◌++◌, length, take, drop, ◌⊎◌, inl, inr, refl, ap, sym, ◌∙◌, slice_get, Some, arith}
use Rattle.std.specs.Prelude.{count_by, min}
use Rattle.std.proofs.Math.Seq.{take-add}
use Rattle.std.proofs.lemmas.Bool.{eq-eqb, ne_eqb}
use Rattle.std.proofs.lemmas.List.{length-take-le, take_min, take-take}
use Rattle.std.proofs.lemmas.List.Sums.{count_by-le-length, count_by_more_no, count_by_more_yes, sum_by-append, sum_by-cons}
use Rattle.std.proofs.lemmas.Option.{none-some, same_Some, slice_get-get_or, slice_get_within}
use Rattle.tap_base.specs.declared.place.Range.{Range}
use Rattle.tap_base.specs.Interval.{truth_range}
use Rattle.register_code.specs.Results.{are_truths}
use Rattle.register_code.specs.Sites.{lies_in}
use Rattle.code_rules.specs.Others.{AreOthers, is_other}

abbrev one_if : Range → ℕ
one_if x = cond (is_other x) 1 0

-- all are truths exactly where no other is counted
truths_counted : (xs : List Range) → (are_truths xs ≡ true) × (count_by is_other xs ≡ 0) ⊎ (are_truths xs ≡ false) × (0 ≡ count_by is_other xs → ⊥)
truths_counted [] = inl (refl, refl)
truths_counted (x ∷ xs) = by_test (lies_in x truth_range) refl (truths_counted xs) where
  more : count_by is_other (x ∷ xs) ≡ one_if x + count_by is_other xs
  more = sum_by-cons (λ y. cond (is_other y) 1 0) x xs

  by_test : (b : Bool) → lies_in x truth_range ≡ b → (are_truths xs ≡ true) × (count_by is_other xs ≡ 0) ⊎ (are_truths xs ≡ false) × (0 ≡ count_by is_other xs → ⊥)
      → (are_truths (x ∷ xs) ≡ true) × (count_by is_other (x ∷ xs) ≡ 0) ⊎ (are_truths (x ∷ xs) ≡ false) × (0 ≡ count_by is_other (x ∷ xs) → ⊥)
  by_test true e (inl both) = let none : one_if x ≡ 0 = rw e refl in let rest = both.0 in inl (rw (e, rest) refl, omega (arith, more, none, both.1))
  by_test true e (inr both) = let none : one_if x ≡ 0 = rw e refl in let rest = both.0 in inr (rw (e, rest) refl, λ z. both.1 (omega (arith, more, none, z)))
  by_test false e r = let some : one_if x ≡ 1 = rw e refl in inr (rw e refl, λ z. omega (arith, more, some, z))

-- the entries at both ends of a run say whether all of it are truths
pub no_others : (ranges : List Range) (others : List ℕ) (first count from to m n : ℕ) → AreOthers ranges others → from ≡ min (length ranges) first → to ≡ min (length ranges) (first + count)
    → slice_get others from ≡ Some m → slice_get others to ≡ Some n → (m == n) ≡ are_truths (take count (drop first ranges))
no_others ranges others first count from to m n h e f at there =
    let front : take from ranges ≡ take first ranges = ap (λ k. take k ranges) (e ∙ omega arith) ∙ take_min first ranges in
    let whole : take to ranges ≡ take (first + count) ranges = ap (λ k. take k ranges) (f ∙ omega arith) ∙ take_min (first + count) ranges in
    let low : m ≡ count_by is_other (take first ranges) = h.each from m at ∙ ap (count_by is_other) front in
    let high : n ≡ count_by is_other (take first ranges) + count_by is_other (take count (drop first ranges)) =
    h.each to n there ∙ ap (count_by is_other) (whole ∙ take-add first count ranges) ∙ sum_by-append (λ y. cond (is_other y) 1 0) (take first ranges) (take count (drop first ranges)) in
    by_count (truths_counted (take count (drop first ranges))) low high where
      by_count : (are_truths (take count (drop first ranges)) ≡ true) × (count_by is_other (take count (drop first ranges)) ≡ 0) ⊎ (are_truths (take count (drop first ranges)) ≡ false) × (0 ≡ count_by is_other (take count (drop first ranges)) → ⊥)
          → m ≡ count_by is_other (take first ranges) → n ≡ count_by is_other (take first ranges) + count_by is_other (take count (drop first ranges)) → (m == n) ≡ are_truths (take count (drop first ranges))
      by_count (inl both) low high = eq-eqb m n (omega (arith, low, high, both.1)) ∙ sym both.0
      by_count (inr both) low high = ne_eqb m n (λ same. both.1 (omega (arith, low, high, same))) ∙ sym both.0

-- ---- one register more

pub count_more : (xs : List Range) (i : ℕ) (d : Range) → i < length xs → count_by is_other (take (i + 1) xs) ≡ count_by is_other (take i xs) + cond (is_other (get_or xs i d)) 1 0
count_more xs i d l = by_test (is_other (get_or xs i d)) refl where
  by_test : (b : Bool) → is_other (get_or xs i d) ≡ b → count_by is_other (take (i + 1) xs) ≡ count_by is_other (take i xs) + cond b 1 0
  by_test true e = count_by_more_yes is_other xs i d l e
  by_test false e = count_by_more_no is_other xs i d l e ∙ omega arith

appended : {A : Type 0} (xs : List A) (y : A) (i : ℕ) (z : A) → slice_get (xs ++ y ∷ []) i ≡ Some z → (slice_get xs i ≡ Some z) ⊎ ((i ≡ length xs) × (y ≡ z))
appended [] y zero z e = inr (refl, same_Some y z e)
appended [] y (suc i) z e = absurd (none-some z e)
appended (x ∷ xs) y zero z e = inl e
appended (x ∷ xs) y (suc i) z e = by_place (appended xs y i z e) where
  by_place : (slice_get xs i ≡ Some z) ⊎ ((i ≡ length xs) × (y ≡ z)) → (slice_get xs i ≡ Some z) ⊎ ((suc i ≡ suc (length xs)) × (y ≡ z))
  by_place (inl h) = inl h
  by_place (inr h) = inr (ap suc h.0, h.1)

abbrev pub AreCounts : List Range → List ℕ → Type 0
AreCounts xs table = (i k : ℕ) → slice_get table i ≡ Some k → k ≡ count_by is_other (take i xs)

pub counts_more : (xs : List Range) (table : List ℕ) (n k : ℕ) → AreCounts xs table → length table ≡ n → k ≡ count_by is_other (take n xs) → AreCounts xs (table ++ k ∷ [])
counts_more xs table n k h e is i m at = by_place (appended table k i m at) where
  by_place : (slice_get table i ≡ Some m) ⊎ ((i ≡ length table) × (k ≡ m)) → m ≡ count_by is_other (take i xs)
  by_place (inl there) = h i m there
  by_place (inr last) = sym last.1 ∙ is ∙ ap (λ j. count_by is_other (take j xs)) (sym (last.0 ∙ e))

pub one_at_most : (b : Bool) → cond b 1 0 ≤ 1
one_at_most true = omega arith
one_at_most false = omega arith

-- ---- so many registers, of more

got_front : {A : Type 0} (xs : List A) (m i : ℕ) (x : A) → slice_get (take m xs) i ≡ Some x → (slice_get xs i ≡ Some x) × (i < m)
got_front xs zero i x e = absurd (none-some x e)
got_front [] (suc m) i x e = absurd (none-some x e)
got_front (y ∷ ys) (suc m) zero x e = (e, omega arith)
got_front (y ∷ ys) (suc m) (suc i) x e = let rest = got_front ys m i x e in (rest.0, omega (arith, rest.1))

-- those of the first so many registers
pub counts_cut : (ranges : List Range) (others : List ℕ) (n m : ℕ) → n ≤ length ranges → m ≡ n + 1 → AreOthers ranges others → AreOthers (take n ranges) (take m others)
counts_cut ranges others n m l e h = record {
  counted = length-take-le m others (omega (arith, e, l, h.counted)) ∙ e ∙ sym (ap (λ k. k + 1) (length-take-le n ranges l));
  each = λ i k at. let there = got_front others m i k at in h.each i k there.0 ∙ ap (count_by is_other) (sym (take-take i n ranges (omega (arith, e, there.1))));
}

-- the same, of all registers
pub counts_front : (ranges : List Range) (table : List ℕ) (n : ℕ) → n ≤ length ranges → AreOthers (take n ranges) table → (length table ≡ n + 1) × AreCounts ranges table
counts_front ranges table n l h =
    let long : length table ≡ n + 1 = h.counted ∙ ap (λ k. k + 1) (length-take-le n ranges l) in
    (long, λ i k at. let there = slice_get_within table i k at in h.each i k at ∙ ap (count_by is_other) (take-take i n ranges (omega (arith, long, there))))

pub count_at_end : (ranges : List Range) (table : List ℕ) (n : ℕ) → n ≤ length ranges → AreOthers (take n ranges) table → get_or table n 0 ≡ count_by is_other (take n ranges)
count_at_end ranges table n l h =
    let front = counts_front ranges table n l h in
    front.1 n (get_or table n 0) (slice_get-get_or table n 0 (omega (arith, front.0)))

pub count_few : (ranges : List Range) (n : ℕ) → n ≤ length ranges → count_by is_other (take n ranges) ≤ n
count_few ranges n l = omega (arith, count_by-le-length is_other (take n ranges), length-take-le n ranges l)
