-- What all elements of a list pass, and the elements of its runs.
use Rattle.std.proofs.Common.{◌≡◌, ◌+◌, ◌<◌, ◌≤◌, ℕ, zero, suc, Bool, true, List, [], ◌∷◌, length, take, drop, refl, ap, subst, ◌∙◌, slice_get, Some, arith}
use Rattle.std.specs.List.{list_all}
use Rattle.std.proofs.lemmas.Bool.{and_parts}
use Rattle.tap_base.proofs.ListFacts.{element_at}

pub get_take : {A : Type 0} (n k : ℕ) (xs : List A) → k < n → slice_get (take n xs) k ≡ slice_get xs k
get_take zero k xs l = absurd (omega arith)
get_take (suc n) k [] l = refl
get_take (suc n) zero (x ∷ xs) l = refl
get_take (suc n) (suc k) (x ∷ xs) l = get_take n k xs (omega arith)

pub get_drop : {A : Type 0} (b k : ℕ) (xs : List A) → slice_get (drop b xs) k ≡ slice_get xs (b + k)
get_drop zero k xs = ap (slice_get xs) (omega arith)
get_drop (suc b) k [] = refl
get_drop (suc b) k (x ∷ xs) = let e : suc b + k ≡ suc (b + k) = omega arith in rw e (get_drop b k xs)

pub all_at : {A : Type 0} (test : A → Bool) (xs : List A) (k : ℕ) (x : A) → list_all test xs ≡ true → slice_get xs k ≡ Some x → test x ≡ true
all_at test [] k x h e = cc
all_at test (y ∷ ys) zero x h e = let same : y ≡ x = cc in subst (λ z. test z ≡ true) same (and_parts (test y) (list_all test ys) h).0
all_at test (y ∷ ys) (suc k) x h e = all_at test ys k x (and_parts (test y) (list_all test ys) h).1 e

-- what all of a run pass, the element at this place of it passes
pub run_at : {A : Type 0} (test : A → Bool) (xs : List A) (b n k : ℕ) → list_all test (take n (drop b xs)) ≡ true → k < n → b + n ≤ length xs → (x : A) × (slice_get xs (b + k) ≡ Some x) × (test x ≡ true)
run_at test xs b n k h l m =
    let found = element_at xs (b + k) (omega arith) in
    let at : slice_get (take n (drop b xs)) k ≡ Some found.0 = get_take n k (drop b xs) l ∙ get_drop b k xs ∙ found.1 in
    (found.0, found.1, all_at test (take n (drop b xs)) k found.0 h at)
