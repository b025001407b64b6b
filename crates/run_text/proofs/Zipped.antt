-- A loop over three lists side by side comes to the end of one of them.
use Rattle.std.proofs.Common.{◌≡◌, ◌⊎◌, inl, inr, List, [], ◌∷◌, length, drop, refl, ap, sym, subst, ◌∙◌, Bor, Option, None}
use Rattle.std.specs.declared.iter.Zip.{Zip}
use Rattle.std.specs.Iterator.{Yields}
use Rattle.std.specs.Iterator.Adapters.{zip_first, zip_second}
use Rattle.std.specs.Slice.Iter.{iter_rest}
use Rattle.std.proofs.Common.{Iter}
use Rattle.std.proofs.iter.Yields.{fronts}
use Rattle.std.proofs.lemmas.Iterator.{zips}
use Rattle.std.proofs.lemmas.List.{nil_from_length}
use Rattle.std.proofs.lemmas.Slice.Zip.{either_empty_from_Zip}

abbrev Side : Type 0 → Type 0 → Type 0 → Type 0
Side A B C = Zip (Zip (Iter A) (Iter B)) (Iter C)

abbrev Pair : Type 0 → Type 0 → Type 0 → Type 0
Pair A B C = (Bor A × Bor B) × Bor C

abbrev pub side : (A B C : Type 0) → Side A B C → Option (Pair A B C) → Side A B C → Type 0
side A B C = zips (zips (fronts {A = A}) (fronts {A = B})) (fronts {A = C})

abbrev one : (A B C : Type 0) → Side A B C → List A
one A B C s = iter_rest (zip_first (zip_first s))

abbrev two : (A B C : Type 0) → Side A B C → List B
two A B C s = iter_rest (zip_second (zip_first s))

abbrev three : (A B C : Type 0) → Side A B C → List C
three A B C s = iter_rest (zip_second s)

-- what is left of the lists
left : (A B C : Type 0) (xs : List (Pair A B C)) (s t : Side A B C) → Yields (side A B C) s xs t
    → (one A B C t ≡ drop (length xs) (one A B C s)) × (two A B C t ≡ drop (length xs) (two A B C s)) × (three A B C t ≡ drop (length xs) (three A B C s))
left A B C [] s t y = (ap (one A B C) (sym y), ap (two A B C) (sym y), ap (three A B C) (sym y))
left A B C (x ∷ xs) s t y =
    let k = left A B C xs y.0 t y.2 in (
      k.0 ∙ sym (ap (drop (length (x ∷ xs))) y.1.0.0),
      k.1 ∙ sym (ap (drop (length (x ∷ xs))) y.1.0.1),
      k.2 ∙ sym (ap (drop (length (x ∷ xs))) y.1.1),
    )

abbrev IsOver : (A B C : Type 0) → List A → List B → List C → Type 0
IsOver A B C ks vs ws = (ks ≡ []) ⊎ ((vs ≡ []) ⊎ (ws ≡ []))

ended : (A B C : Type 0) (s t : Side A B C) (r : Option (Pair A B C)) → r ≡ None → side A B C s r t → IsOver A B C (one A B C s) (two A B C s) (three A B C s)
ended A B C s t r e h = by (subst (λ o. side A B C s o t) e h) where
  first : (one A B C s ≡ []) ⊎ (two A B C s ≡ []) → IsOver A B C (one A B C s) (two A B C s) (three A B C s)
  first (inl n) = inl n
  first (inr n) = inr (inl n)

  by : ((u : Zip (Iter A) (Iter B)) × zips fronts fronts (zip_first s) None u) ⊎ ((u : Iter C) × fronts (zip_second s) None u) → IsOver A B C (one A B C s) (two A B C s) (three A B C s)
  by (inl a) = first (either_empty_from_Zip (zip_first s) a.0 None refl a.1)
  by (inr b) = inr (inr (nil_from_length _ b.1.0))

over : (A B C : Type 0) (ks ks' : List A) (vs vs' : List B) (ws ws' : List C) → ks ≡ ks' → vs ≡ vs' → ws ≡ ws' → IsOver A B C ks vs ws → IsOver A B C ks' vs' ws'
over A B C ks ks' vs vs' ws ws' a b c (inl n) = inl (sym a ∙ n)
over A B C ks ks' vs vs' ws ws' a b c (inr (inl n)) = inr (inl (sym b ∙ n))
over A B C ks ks' vs vs' ws ws' a b c (inr (inr n)) = inr (inr (sym c ∙ n))

-- nothing is left of one of the lists
pub end_of_one : (A B C : Type 0) (ks : List A) (vs : List B) (ws : List C) (xs : List (Pair A B C)) (s t u : Side A B C) (r : Option (Pair A B C))
    → one A B C s ≡ ks → two A B C s ≡ vs → three A B C s ≡ ws → Yields (side A B C) s xs t → r ≡ None → side A B C t r u
    → (drop (length xs) ks ≡ []) ⊎ ((drop (length xs) vs ≡ []) ⊎ (drop (length xs) ws ≡ []))
end_of_one A B C ks vs ws xs s t u r a b c y e h =
    let k = left A B C xs s t y in
    over A B C _ _ _ _ _ _ (k.0 ∙ ap (drop (length xs)) a) (k.1 ∙ ap (drop (length xs)) b) (k.2 ∙ ap (drop (length xs)) c) (ended A B C t u r e h)
