-- Facts of lists in which no two are equal, and of what is none of a list.
use Rattle.std.proofs.Common.{◌≡◌, ℕ, zero, suc, List, [], ◌∷◌, ◌++◌, Some, slice_get, refl, ap, sym, subst}
use Rattle.std.proofs.lemmas.Option.{none-some, same_Some}
use Rattle.tap_base.specs.Lists.{AreDistinct, IsNoneOf}

-- what stands behind in a list without equals has none
pub distinct_behind : {A : Type 0} (xs ys : List A) → AreDistinct (xs ++ ys) → AreDistinct ys
distinct_behind [] ys h = h
distinct_behind (x ∷ xs) ys h = distinct_behind xs ys h.1

pub none_behind : {A : Type 0} (x : A) (xs ys : List A) → IsNoneOf x (xs ++ ys) → IsNoneOf x ys
none_behind x [] ys n = n
none_behind x (z ∷ zs) ys n = none_behind x zs ys n.1

none_more : {A : Type 0} (x y : A) (xs : List A) → IsNoneOf x xs → (x ≡ y → ⊥) → IsNoneOf x (xs ++ y ∷ [])
none_more x y [] n k = (k, tt)
none_more x y (z ∷ zs) n k = (n.0, none_more x y zs n.1 k)

pub distinct_more : {A : Type 0} (xs : List A) (x : A) → AreDistinct xs → IsNoneOf x xs → AreDistinct (xs ++ x ∷ [])
distinct_more [] x d n = (tt, tt)
distinct_more (y ∷ ys) x d n = (none_more y x ys d.0 (λ e. n.0 (sym e)), distinct_more ys x d.1 n.1)

-- what is none of these stands nowhere among them
none_there : {A : Type 0} (x : A) (xs : List A) (k : ℕ) → IsNoneOf x xs → slice_get xs k ≡ Some x → ⊥
none_there x [] k n e = none-some x e
none_there x (y ∷ ys) zero n e = n.0 (sym (same_Some y x e))
none_there x (y ∷ ys) (suc k) n e = none_there x ys k n.1 e

-- where none are equal, each has one place
pub one_place : {A : Type 0} (x : A) (xs : List A) (i j : ℕ) → AreDistinct xs → slice_get xs i ≡ Some x → slice_get xs j ≡ Some x → i ≡ j
one_place {A} x [] i j d e f = absurd (none-some x e)
one_place {A} x (y ∷ ys) zero zero d e f = refl
one_place {A} x (y ∷ ys) zero (suc j) d e f = let F : A → Type 0 = λ z. IsNoneOf z ys in absurd (none_there x ys j (subst F (same_Some y x e) d.0) f)
one_place {A} x (y ∷ ys) (suc i) zero d e f = let F : A → Type 0 = λ z. IsNoneOf z ys in absurd (none_there x ys i (subst F (same_Some y x f) d.0) e)
one_place {A} x (y ∷ ys) (suc i) (suc j) d e f = ap suc (one_place x ys i j d.1 e f)
