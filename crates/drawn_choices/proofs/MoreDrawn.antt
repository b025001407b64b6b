-- Choices that are drawn one after the other.
use Rattle.std.proofs.Common.{◌≡◌, ℕ, ◌+◌, ℤ, List, [], ◌∷◌, ◌++◌, length, ◌⊎◌, inl, inr, refl, subst}
use Rattle.drawn_choices.specs.Draws.{AreDrawn, IsDraw, Leading}

-- a place in a list with one more element is the last one, or one of the others
last_or_before : {A : Type 0} (xs before behind : List A) (x y : A) → xs ++ x ∷ [] ≡ before ++ y ∷ behind → ((xs ≡ before) × (x ≡ y)) ⊎ ((more : List A) × (xs ≡ before ++ y ∷ more))
last_or_before [] [] behind x y e = inl (refl, cc)
last_or_before [] (b ∷ []) behind x y e = absurd cc
last_or_before [] (b ∷ c ∷ bs) behind x y e = absurd cc
last_or_before (a ∷ as_) [] behind x y e = inr (as_, cc)
last_or_before {A} (a ∷ as_) (b ∷ bs) behind x y e = go (last_or_before as_ bs behind x y cc) where
  first : a ≡ b
  first = cc

  go : ((as_ ≡ bs) × (x ≡ y)) ⊎ ((more : List A) × (as_ ≡ bs ++ y ∷ more)) → ((a ∷ as_ ≡ b ∷ bs) × (x ≡ y)) ⊎ ((more : List A) × (a ∷ as_ ≡ b ∷ (bs ++ y ∷ more)))
  go (inl s) = let p = s.0 in let q = first in inl (cc, s.1)
  go (inr s) = let p = s.1 in let q = first in inr (s.0, cc)

pub none_drawn : (leads : Leading) (word : ℕ → ℕ) (k : ℕ) → AreDrawn leads word k []
none_drawn leads word k [] behind x e = absurd cc
none_drawn leads word k (b ∷ bs) behind x e = absurd cc

-- one more draw behind those that were made
pub one_more_drawn : (leads : Leading) (word : ℕ → ℕ) (k : ℕ) (xs : List ℤ) (x : ℤ) → AreDrawn leads word k xs → IsDraw leads (word (k + length xs)) xs x → AreDrawn leads word k (xs ++ x ∷ [])
one_more_drawn leads word k xs x d i before behind y e = go (last_or_before xs before behind x y e) where
  go : ((xs ≡ before) × (x ≡ y)) ⊎ ((more : List ℤ) × (xs ≡ before ++ y ∷ more)) → IsDraw leads (word (k + length before)) before y
  go (inl s) = subst (λ (z : ℤ). IsDraw leads (word (k + length before)) before z) s.1 (subst (λ (zs : List ℤ). IsDraw leads (word (k + length zs)) zs x) s.0 i)
  go (inr s) = d before s.0 y s.1
