-- What elements give by their numbers.
use Rattle.std.proofs.Common.{◌≡◌, ℕ, zero, suc, ◌+◌, List, [], ◌∷◌, Option, Some, slice_get, refl, sym, subst, arith, zero-add}
use Rattle.std.proofs.lemmas.Option.{none-some, same_Some}
use Rattle.tap_base.specs.Option.{◌>>=◌}
use Rattle.tap_base.specs.ListWords.{by_number, each_by_number}
use Rattle.tap_base.proofs.OptionFacts.{bound}

none_from : {A B : Type 0} (n : ℕ) (f : ℕ → A → List B) (xs : List A) → ((k : ℕ) (x : A) → slice_get xs k ≡ Some x → f (n + k) x ≡ []) → by_number n f xs ≡ []
none_from n f [] h = refl
none_from n f (x ∷ xs) h =
    let here : n + 0 ≡ n = omega arith in
    let head : f n x ≡ [] = subst (λ m. f m x ≡ []) here (h 0 x refl) in
    let rest : by_number (n + 1) f xs ≡ [] = none_from (n + 1) f xs (λ k y e. let next : n + suc k ≡ n + 1 + k = omega arith in subst (λ m. f m y ≡ []) next (h (suc k) y e)) in
    rw (head, rest) refl

same_from : {A B : Type 0} (n : ℕ) (f g : ℕ → A → Option B) (xs : List A) → ((k : ℕ) (x : A) → slice_get xs k ≡ Some x → f (n + k) x ≡ g (n + k) x) → each_by_number n f xs ≡ each_by_number n g xs
same_from n f g [] h = refl
same_from n f g (x ∷ xs) h =
    let here : n + 0 ≡ n = omega arith in
    let head : f n x ≡ g n x = subst (λ m. f m x ≡ g m x) here (h 0 x refl) in
    let rest : each_by_number (n + 1) f xs ≡ each_by_number (n + 1) g xs =
    same_from (n + 1) f g xs (λ k y e. let next : n + suc k ≡ n + 1 + k = omega arith in subst (λ m. f m y ≡ g m y) next (h (suc k) y e)) in
    rw (head, rest) refl

given_from : {A B : Type 0} (n : ℕ) (f : ℕ → A → Option B) (xs : List A) (ys : List B) (k : ℕ) (x : A) → each_by_number n f xs ≡ Some ys → slice_get xs k ≡ Some x → (y : B) × (f (n + k) x ≡ Some y)
given_from n f [] ys k x e h = absurd (none-some x h)
given_from n f (a ∷ as_) ys zero x e h =
    let one = bound (λ y. each_by_number (n + 1) f as_ >>= λ zs. Some (y ∷ zs)) (f n a) ys e in
    let here : n ≡ n + 0 = omega arith in
    (one.0, subst (λ m. f m x ≡ Some one.0) here (subst (λ z. f n z ≡ Some one.0) (same_Some a x h) one.1))
given_from n f (a ∷ as_) ys (suc k) x e h =
    let one = bound (λ y. each_by_number (n + 1) f as_ >>= λ zs. Some (y ∷ zs)) (f n a) ys e in
    let rest = bound (λ zs. Some (one.0 ∷ zs)) (each_by_number (n + 1) f as_) ys one.2 in
    let it = given_from (n + 1) f as_ rest.0 k x rest.1 h in
    let next : n + 1 + k ≡ n + suc k = omega arith in
    (it.0, subst (λ m. f m x ≡ Some it.0) next it.1)

-- where no element gives something, nothing is given
pub none_by_number : {A B : Type 0} (f : ℕ → A → List B) (xs : List A) → ((k : ℕ) (x : A) → slice_get xs k ≡ Some x → f k x ≡ []) → by_number 0 f xs ≡ []
none_by_number f xs h = none_from 0 f xs (λ k x e. subst (λ m. f m x ≡ []) (sym (zero-add k)) (h k x e))

-- what each gives at its number is what matters
pub same_by_number : {A B : Type 0} (f g : ℕ → A → Option B) (xs : List A) → ((k : ℕ) (x : A) → slice_get xs k ≡ Some x → f k x ≡ g k x) → each_by_number 0 f xs ≡ each_by_number 0 g xs
same_by_number f g xs h = same_from 0 f g xs (λ k x e. subst (λ m. f m x ≡ g m x) (sym (zero-add k)) (h k x e))

-- where all give something, the one at a place does
pub given_at : {A B : Type 0} (f : ℕ → A → Option B) (xs : List A) (ys : List B) (k : ℕ) (x : A) → each_by_number 0 f xs ≡ Some ys → slice_get xs k ≡ Some x → (y : B) × (f k x ≡ Some y)
given_at f xs ys k x e h = let it = given_from 0 f xs ys k x e h in (it.0, subst (λ m. f m x ≡ Some it.0) (zero-add k) it.1)

-- one more that gives something
pub added : {A B : Type 0} (n : ℕ) (f : ℕ → A → Option B) (x : A) (xs : List A) (y : B) (ys : List B) → f n x ≡ Some y → each_by_number (n + 1) f xs ≡ Some ys → each_by_number n f (x ∷ xs) ≡ Some (y ∷ ys)
added n f x xs y ys h k = rw (h, k) refl
