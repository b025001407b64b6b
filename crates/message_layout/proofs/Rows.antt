-- Rows of marks.
use Rattle.std.proofs.Common.{◌≡◌, ℕ, zero, suc, ◌+◌, ◌<◌, ◌≤◌, List, [], ◌∷◌, ◌++◌, length, refl, ap, sym, ◌∙◌, subst, arith, inl, inr, ◌||◌, Bool, true, false, Some}
use Rattle.std.specs.Prelude.{slice_get}
use Rattle.std.specs.List.{list_any}
use Rattle.std.proofs.lemmas.Bool.{cases_lt}
use Rattle.std.proofs.lemmas.Option.{slice_get_within}
use Rattle.message_layout.specs.declared.shapes.Shape.{Shape}
use Rattle.message_layout.specs.inner.Rivals.{AreRivals, IsMark, is_rival}

front_mark : (row : List Bool) (b : Bool) (k : ℕ) → k < length row → is_rival (row ++ b ∷ []) k ≡ is_rival row k
front_mark [] b k less = absurd (omega arith)
front_mark (x ∷ row) b zero less = refl
front_mark (x ∷ row) b (suc k) less = front_mark row b k (omega arith)

last_mark : (row : List Bool) (b : Bool) → is_rival (row ++ b ∷ []) (length row) ≡ b
last_mark [] b = refl
last_mark (x ∷ row) b = last_mark row b

pub next_mark : (shapes : List Shape) (m n : ℕ) (row new : List Bool) (b : Bool) → length row ≡ n → new ≡ row ++ b ∷ [] → IsMark shapes m n b
    → ((k : ℕ) → k < n → IsMark shapes m k (is_rival row k)) → (k : ℕ) → k < n + 1 → IsMark shapes m k (is_rival new k)
next_mark shapes m n row new b counted e here before k less = elim (cases_lt k n) [
  | inl front ↦ subst (IsMark shapes m k) (sym (ap (λ r. is_rival r k) e ∙ front_mark row b k (omega arith))) (before k front)
  | inr upto ↦ (
      let same : k ≡ n = omega arith in
      let last : is_rival new k ≡ b = ap (λ r. is_rival r k) e ∙ ap (is_rival (row ++ b ∷ [])) (same ∙ sym counted) ∙ last_mark row b in
      subst (IsMark shapes m k) (sym last) (subst (λ j. IsMark shapes m j b) (sym same) here)
      )
]

pub all_marked : (shapes : List Shape) (m n : ℕ) (row : List Bool) → length shapes ≤ n → ((k : ℕ) → k < n → IsMark shapes m k (is_rival row k)) → AreRivals shapes m row
all_marked shapes m n row past marked k one other less e f = let inside = slice_get_within shapes k other f in marked k (omega arith) one other less e f

none_found : (test : Bool → Bool) → test true ≡ true → (row : List Bool) (n : ℕ) → list_any test row ≡ false → is_rival row n ≡ false
none_found test hit [] n h = refl
none_found test hit (true ∷ row) n h = absurd (cc)
none_found test hit (false ∷ row) zero h = refl
none_found test hit (false ∷ row) (suc n) h = none_found test hit row n (tail (test false) (list_any test row) h) where
  tail : (a b : Bool) → (a || b) ≡ false → b ≡ false
  tail true b e = absurd (cc)
  tail false b e = e

pub no_marks : (test : Bool → Bool) → test true ≡ true → (shapes : List Shape) (m : ℕ) (row : List Bool) → list_any test row ≡ false → AreRivals shapes m row → AreRivals shapes m []
no_marks test hit shapes m row h marked n = subst (IsMark shapes m n) (none_found test hit row n h) (marked n)

pub next_row : (shapes : List Shape) (m : ℕ) (rivals new : List (List Bool)) (row : List Bool) → length rivals ≡ m → new ≡ rivals ++ row ∷ [] → AreRivals shapes m row
    → ((k : ℕ) (r : List Bool) → slice_get rivals k ≡ Some r → AreRivals shapes k r) → (k : ℕ) (r : List Bool) → slice_get new k ≡ Some r → AreRivals shapes k r
next_row shapes m rivals new row counted e here before k r is = elim (cases_lt k (length rivals)) [
  | inl front ↦ before k r (sym (front_row rivals k front) ∙ ap (λ xs. slice_get xs k) (sym e) ∙ is)
  | inr upto ↦ (
      let end : slice_get (rivals ++ row ∷ []) k ≡ Some r = ap (λ xs. slice_get xs k) (sym e) ∙ is in
      let same : k ≡ m = at_end rivals k upto end ∙ counted in
      let row_is : row ≡ r = (let f : slice_get (rivals ++ row ∷ []) (length rivals) ≡ Some row = last_row rivals in let g : slice_get (rivals ++ row ∷ []) (length rivals) ≡ Some r = ap (slice_get (rivals ++ row ∷ [])) (counted ∙ sym same) ∙ end in cc) in
      subst (λ j. AreRivals shapes j r) (sym same) (subst (AreRivals shapes m) row_is here)
      )
] where
  front_row : (xs : List (List Bool)) (j : ℕ) → j < length xs → slice_get (xs ++ row ∷ []) j ≡ slice_get xs j
  front_row [] j less = absurd (omega arith)
  front_row (x ∷ xs) zero less = refl
  front_row (x ∷ xs) (suc j) less = front_row xs j (omega arith)

  last_row : (xs : List (List Bool)) → slice_get (xs ++ row ∷ []) (length xs) ≡ Some row
  last_row [] = refl
  last_row (x ∷ xs) = last_row xs

  at_end : (xs : List (List Bool)) (j : ℕ) → length xs ≤ j → slice_get (xs ++ row ∷ []) j ≡ Some r → j ≡ length xs
  at_end [] zero past there = refl
  at_end [] (suc j) past there = absurd (cc)
  at_end (x ∷ xs) zero past there = absurd (omega arith)
  at_end (x ∷ xs) (suc j) past there = ap suc (at_end xs j (omega arith) there)
