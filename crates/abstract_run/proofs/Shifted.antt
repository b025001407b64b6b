-- Neighbours that change places, one pair after another, move one element along a list.
use Rattle.std.proofs.Common.{◌≡◌, ◌+◌, ◌<◌, ℕ, zero, suc, List, [], ◌∷◌, length, get_or, refl, ap, sym, ◌∙◌, slice_get, slice_set, Some, arith}
use Rattle.std.specs.List.{insert, remove, swap}
use Rattle.std.proofs.lemmas.List.Edits.{length-insert, swap_is}

-- an element that is taken out and put in again
pub back_in : {A : Type 0} (xs : List A) (i : ℕ) (x : A) → slice_get xs i ≡ Some x → insert (remove xs i) i x ≡ xs
back_in [] i x e = cc
back_in (y ∷ ys) zero x e = let same : x ≡ y = cc in ap (λ z. z ∷ ys) same
back_in (y ∷ ys) (suc i) x e = ap (λ zs. y ∷ zs) (back_in ys i x e)

exchanged_up : {A : Type 0} (d x : A) (ys : List A) (k : ℕ) → k < length ys
    → slice_set (slice_set (insert ys k x) k (get_or (insert ys k x) (suc k) d)) (suc k) (get_or (insert ys k x) k d) ≡ insert ys (suc k) x
exchanged_up d x [] k h = absurd (omega (arith, h))
exchanged_up d x (y ∷ ys) zero h = refl
exchanged_up d x (y ∷ ys) (suc k) h = ap (λ zs. y ∷ zs) (exchanged_up d x ys k (omega (arith, h)))

exchanged_down : {A : Type 0} (d x : A) (ys : List A) (k : ℕ) → k < length ys
    → slice_set (slice_set (insert ys (suc k) x) (suc k) (get_or (insert ys (suc k) x) k d)) k (get_or (insert ys (suc k) x) (suc k) d) ≡ insert ys k x
exchanged_down d x [] k h = absurd (omega (arith, h))
exchanged_down d x (y ∷ ys) zero h = refl
exchanged_down d x (y ∷ ys) (suc k) h = ap (λ zs. y ∷ zs) (exchanged_down d x ys k (omega (arith, h)))

-- towards the end
pub one_up : {A : Type 0} (x : A) (ys : List A) (k : ℕ) → k < length ys → swap (insert ys k x) k (k + 1) ≡ insert ys (k + 1) x
one_up x ys k h =
    let longer = length-insert ys k x (omega (arith, h)) in
    let next : k + 1 ≡ suc k = omega arith in
    rw next (sym (swap_is (insert ys k x) k (suc k) x (omega (arith, longer, h)) (omega (arith, longer, h))) ∙ exchanged_up x x ys k h)

-- towards the front
pub one_down : {A : Type 0} (x : A) (ys : List A) (k : ℕ) → k < length ys → swap (insert ys (k + 1) x) (k + 1) k ≡ insert ys k x
one_down x ys k h =
    let longer = length-insert ys (suc k) x (omega (arith, h)) in
    let next : k + 1 ≡ suc k = omega arith in
    rw next (sym (swap_is (insert ys (suc k) x) (suc k) k x (omega (arith, longer, h)) (omega (arith, longer, h))) ∙ exchanged_down x x ys k h)
