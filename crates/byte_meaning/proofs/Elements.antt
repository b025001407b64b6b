-- The elements of lists, and of what the elements of a list give.
use Rattle.std.proofs.Common.{◌≡◌, ◌⊎◌, inl, inr, ℕ, ◌+◌, zero, suc, ◌<◌, List, [], ◌∷◌, ◌++◌, flat_map, refl, ap, sym, subst, arith, Some}
use Rattle.std.specs.Prelude.{slice_get}
use Rattle.std.specs.List.{Contains}
use Rattle.std.proofs.lemmas.List.Elements.{Contains-append_left, Contains-append_right, Contains-append_cases}
use Rattle.tap_base.specs.ListWords.{by_number}

pub no_element : {A : Type 0} (x : A) → Contains [] x → ⊥
no_element x h = let within : h.0 < 0 = h.1 in absurd (omega arith)

pub one_element : {A : Type 0} (x y : A) → Contains (x ∷ []) y → x ≡ y
one_element x y (zero, within, same) = same
one_element x y (suc k, within, same) = absurd (omega arith)

pub itself : {A : Type 0} (x y : A) → x ≡ y → Contains (x ∷ []) y
itself x y e = (0, omega arith, e)

-- y is of what an element gives, by its place; f also has the place, counted from n
abbrev pub IsGiven : {A B : Type 0} → (ℕ → A → List B) → ℕ → List A → B → Type 0
IsGiven {A} f n xs y = (k : ℕ) × (x : A) × (slice_get xs k ≡ Some x) × Contains (f (n + k) x) y

one_giver : {A B : Type 0} (f : ℕ → A → List B) (n : ℕ) (x : A) (xs : List A) (y : B) → (Contains (by_number (n + 1) f xs) y → IsGiven f (n + 1) xs y)
    → Contains (f n x) y ⊎ Contains (by_number (n + 1) f xs) y → IsGiven f n (x ∷ xs) y
one_giver f n x xs y more (inl c) = let here : n ≡ n + 0 = omega arith in (0, x, refl, subst (λ m. Contains (f m x) y) here c)
one_giver f n x xs y more (inr c) =
    let r = more c in
    let place : n + 1 + r.0 ≡ n + suc r.0 = omega arith in
    (suc r.0, r.1, r.2, subst (λ m. Contains (f m r.1) y) place r.3)

pub giver : {A B : Type 0} (f : ℕ → A → List B) (n : ℕ) (xs : List A) (y : B) → Contains (by_number n f xs) y → IsGiven f n xs y
giver f n [] y h = absurd (no_element y h)
giver f n (x ∷ xs) y h = one_giver f n x xs y (giver f (n + 1) xs y) (Contains-append_cases (f n x) (by_number (n + 1) f xs) y h)

pub given : {A B : Type 0} (f : ℕ → A → List B) (n : ℕ) (xs : List A) (y : B) (k : ℕ) (x : A) → slice_get xs k ≡ Some x → Contains (f (n + k) x) y → Contains (by_number n f xs) y
given f n [] y k x is h = absurd (cc)
given f n (z ∷ xs) y zero x is h =
    let here : n + 0 ≡ n = omega arith in
    let same : x ≡ z = cc in
    Contains-append_left (f n z) (by_number (n + 1) f xs) y (subst (λ m. Contains (f m z) y) here (subst (λ w. Contains (f (n + 0) w) y) same h))
given f n (z ∷ xs) y (suc k) x is h =
    let place : n + suc k ≡ n + 1 + k = omega arith in
    Contains-append_right (f n z) (by_number (n + 1) f xs) y (given f (n + 1) xs y k x is (subst (λ m. Contains (f m x) y) place h))

-- the same where places do not matter
flat_by_number : {A B : Type 0} (f : A → List B) (n : ℕ) (xs : List A) → by_number n (λ m x. f x) xs ≡ flat_map f xs
flat_by_number f n [] = refl
flat_by_number f n (x ∷ xs) = ap (λ ys. f x ++ ys) (flat_by_number f (n + 1) xs)

pub flat_giver : {A B : Type 0} (f : A → List B) (xs : List A) (y : B) → Contains (flat_map f xs) y → (k : ℕ) × (x : A) × (slice_get xs k ≡ Some x) × Contains (f x) y
flat_giver f xs y h = giver (λ m x. f x) 0 xs y (subst (λ ys. Contains ys y) (sym (flat_by_number f 0 xs)) h)

pub flat_given : {A B : Type 0} (f : A → List B) (xs : List A) (y : B) (k : ℕ) (x : A) → slice_get xs k ≡ Some x → Contains (f x) y → Contains (flat_map f xs) y
flat_given f xs y k x is h = subst (λ ys. Contains ys y) (flat_by_number f 0 xs) (given (λ m x. f x) 0 xs y k x is h)
