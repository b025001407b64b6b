-- The cells of variables: each variable's are a run of its range, behind those of the variables before it.
use Rattle.std.proofs.Common.{◌≡◌, ℕ, zero, suc, ◌+◌, ◌<◌, ◌≤◌, List, [], ◌∷◌, ◌++◌, Some, length, replicate, slice_get, refl, ap, sym, ◌∙◌, arith}
use Rattle.tap_base.specs.declared.place.Range.{Range}
use Rattle.tap_base.specs.Resolved.{IsArray}

pub get_behind : {A : Type 0} (xs ys : List A) (i : ℕ) → slice_get (xs ++ ys) (length xs + i) ≡ slice_get ys i
get_behind [] ys i = let same : 0 + i ≡ i = omega arith in ap (slice_get ys) same
get_behind (x ∷ xs) ys i = let same : suc (length xs) + i ≡ suc (length xs + i) = omega arith in ap (slice_get (x ∷ (xs ++ ys))) same ∙ get_behind xs ys i

get_run : {A : Type 0} (n i : ℕ) (x : A) (ys : List A) → i < n → slice_get (replicate n x ++ ys) i ≡ Some x
get_run zero i x ys l = absurd (omega (arith, l))
get_run (suc n) zero x ys l = refl
get_run (suc n) (suc i) x ys l = get_run n i x ys (omega (arith, l))

pub run_there : (cells front back : List Range) (k n : ℕ) (range : Range) → length front ≡ k → cells ≡ front ++ (replicate n range ++ back) → 1 ≤ n → IsArray cells k n range
run_there cells front back k n range l e some = record { some = some; each = at }
  where
    at : (i : ℕ) → i < n → slice_get cells (k + i) ≡ Some range
    at i w = ap (λ z. slice_get cells (z + i)) (sym l) ∙ ap (λ z. slice_get z (length front + i)) e ∙ get_behind front (replicate n range ++ back) i ∙ get_run n i range back w
