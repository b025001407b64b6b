-- Values, one word each, are read one after another.
use Rattle.std.proofs.Common.{◌≡◌, ℕ, List, [], ◌∷◌, ◌++◌, length, map, drop, get_or, refl, ap, sym, ◌∙◌, arith, append_assoc, append-nil}
use Rattle.std.proofs.lemmas.List.{map-append}
use Rattle.tap_base.specs.Lists.{Each}
use Rattle.tap_base.proofs.ListFacts.{each_append}
use Rattle.trace_entries.specs.Tails.{AreTail}

-- the values so far, and then the words that are left, are all
abbrev pub Reached : {A : Type 0} → (A → Type 0) → (A → List ℕ) → List (List ℕ) → List A → List (List ℕ) → Type 0
Reached Is word all values left = Each Is values × (map word values ++ left ≡ all)

pub reached_more : {A : Type 0} (Is : A → Type 0) (word : A → List ℕ) (all : List (List ℕ)) (values : List A) (left : List (List ℕ)) (w : List ℕ) (behind : List (List ℕ)) (z : A) → left ≡ w ∷ behind → Is z → w ≡ word z
    → Reached Is word all values left → Reached Is word all (values ++ z ∷ []) behind
reached_more Is word all values left w behind z cut is e h = (
  each_append Is values (z ∷ []) h.0 (is, tt),
  ap (λ x. x ++ behind) (map-append word values (z ∷ [])) ∙ append_assoc (map word values) (word z ∷ []) behind ∙ ap (λ x. map word values ++ x ∷ behind) (sym e) ∙ ap (λ x. map word values ++ x) (sym cut) ∙ h.1,
)

pub reached_end : {A : Type 0} (Is : A → Type 0) (word : A → List ℕ) (all : List (List ℕ)) (values : List A) (left : List (List ℕ)) → left ≡ [] → Reached Is word all values left → AreTail Is word all values
reached_end Is word all values left none h = (h.0, sym h.1 ∙ ap (λ x. map word values ++ x) none ∙ append-nil (map word values))

-- where all are those of values, the next word is that of a value
pub next_of : {A : Type 0} (Is : A → Type 0) (word : A → List ℕ) (all : List (List ℕ)) (values : List A) (w : List ℕ) (behind : List (List ℕ)) (others : List A) → map word values ++ w ∷ behind ≡ all → AreTail Is word all others
    → (z : A) × Is z × (w ≡ word z)
next_of Is word all [] w behind [] e h = let n : length (w ∷ behind) ≡ 0 = ap length (e ∙ h.1) in absurd (omega (arith, n))
next_of Is word all [] w behind (y ∷ ys) e h = (y, h.0.0, ap (λ x. get_or x 0 []) (e ∙ h.1))
next_of Is word all (v ∷ vs) w behind [] e h = let n : length (word v ∷ (map word vs ++ w ∷ behind)) ≡ 0 = ap length (e ∙ h.1) in absurd (omega (arith, n))
next_of Is word all (v ∷ vs) w behind (y ∷ ys) e h = next_of Is word (drop 1 all) vs w behind ys (ap (drop 1) e) (h.0.1, ap (drop 1) h.1)
