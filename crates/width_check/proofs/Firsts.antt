-- The first of several offences.
use Rattle.std.proofs.Common.{◌≡◌, ◌<◌, ◌+◌, ℕ, zero, suc, refl, ap, sym, subst, ◌∙◌, List, [], ◌∷◌, ◌++◌, drop, length, flat_map, map, get_or, slice_get, Some, None, Result, Ok, Err, IsErrAnd}
use Rattle.tap_base.specs.declared.refusal.Refusal.{Refusal}
use Rattle.tap_base.specs.ListWords.{first, joined}
use Rattle.tap_base.specs.Offences.{Clears}
use Rattle.tap_base.proofs.LoopFacts.{first_front, flat_cut, joined_cut}

-- that of a front is that of what the parts make
pub front_of : (xs ys all : List Refusal) (r : Refusal) → xs ++ ys ≡ all → first xs ≡ Some r → first all ≡ Some r
front_of xs ys all r q h = let F : List Refusal → Type 0 = λ z. first z ≡ Some r in subst F q (first_front xs ys r h)

-- ---- answers

pub refuses : (offences : List Refusal) (res : Result Unit Refusal) (r : Refusal) → IsErrAnd res (λ e. e ≡ r) → first offences ≡ Some r → Clears offences res
refuses offences (Ok a) r h f = absurd h
refuses offences (Err e) r h f = f ∙ ap Some (sym h)

-- ---- the element at hand has the first offence of all

module _ {A : Type 0} (f : A → List Refusal) (xs : List A) (i : ℕ) (x : A) (r : Refusal) (l : i < length xs) (q : x ≡ get_or xs i x) where
  pub in_flat : flat_map f (drop i xs) ≡ flat_map f xs → first (f x) ≡ Some r → first (flat_map f xs) ≡ Some r
  in_flat k h = front_of (f x) (flat_map f (drop (i + 1) xs)) (flat_map f xs) r (flat_cut f xs i x l q k) h

  pub in_joined : joined (map f (drop i xs)) ≡ joined (map f xs) → first (f x) ≡ Some r → first (joined (map f xs)) ≡ Some r
  in_joined k h = front_of (f x) (joined (map f (drop (i + 1) xs))) (joined (map f xs)) r (joined_cut f xs i x l q k) h

-- ---- behind the end of a list

pub drop_none : {A : Type 0} (xs : List A) (k : ℕ) → slice_get xs k ≡ None → drop k xs ≡ []
drop_none [] zero h = refl
drop_none [] (suc k) h = refl
drop_none (x ∷ xs) zero h = cc
drop_none (x ∷ xs) (suc k) h = drop_none xs k h
