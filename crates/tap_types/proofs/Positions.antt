-- The numbers of names among names.
use Rattle.std.proofs.Common.{◌≡◌, ℕ, ◌<◌, length, zero, suc, refl, sym, ◌∙◌, ap, true, false, List, [], ◌∷◌, Option, Some, None, map, get_or, ◌⊎◌, inl, inr}
use Rattle.std.specs.Prelude.{◌==◌, bytes_eq, slice_get}
use Rattle.std.proofs.lemmas.Bool.{cases_Bool, cases_eq, eq-eqb, ne_eqb, both_ways}
use Rattle.std.proofs.lemmas.List.Quantifiers.{position-Some}
use Rattle.std.proofs.lemmas.Option.{slice_get-get_or}
use Rattle.std.proofs.lemmas.Slice.Eq.{bytes_eq-Decides}
use Rattle.tap_names.specs.declared.named.Kind.{Kind}
use Rattle.tap_types.specs.Scopes.{is_number, number_of}
use Rattle.tap_types.specs.StmtOffences.{kind_at}

pub kind_at_get : (kinds : List Kind) (i : ℕ) → kind_at (map Some kinds) i ≡ slice_get kinds i
kind_at_get [] i = refl
kind_at_get (k ∷ ks) zero = refl
kind_at_get (k ∷ ks) (suc i) = kind_at_get ks i

-- ---- the number of a name

-- equal bytes are one name
pub same_bytes : (x y : List ℕ) → bytes_eq x y ≡ true → x ≡ y
same_bytes x y e = (bytes_eq-Decides x y).0 e

-- the number of a name is a place where it stands
pub number_within : (x : List ℕ) (names : List (List ℕ)) (k : ℕ) → number_of x names ≡ Some k → k < length names
number_within x names k e = (position-Some (λ y. bytes_eq x y) names k [] e).0

-- the name that stands at its number
named_at : (x : List ℕ) (names : List (List ℕ)) (i : ℕ) → number_of x names ≡ Some i → x ≡ get_or names i []
named_at x names i e = same_bytes x (get_or names i []) (position-Some (λ z. bytes_eq x z) names i [] e).1

pub number_named : (x : List ℕ) (names : List (List ℕ)) (k : ℕ) → number_of x names ≡ Some k → slice_get names k ≡ Some x
number_named x names k e = slice_get-get_or names k [] (number_within x names k e) ∙ ap (λ z. Some z) (sym (named_at x names k e))

-- ---- two names with numbers

other_number : (x y : List ℕ) (names : List (List ℕ)) (i j : ℕ) → number_of x names ≡ Some i → number_of y names ≡ Some j → bytes_eq x y ≡ false → (i ≡ j) ⊎ (i ≡ j → ⊥) → (i == j) ≡ false
other_number x y names i j d e h (inl same) =
    let one : x ≡ y = named_at x names i d ∙ ap (λ z. get_or names z []) same ∙ sym (named_at y names j e) in
    absurd (both_ways (bytes_eq x y) h ((bytes_eq-Decides x y).1 one))
other_number x y names i j d e h (inr apart) = ne_eqb i j apart

-- names have one number where they are the same
pub same_number : (x y : List ℕ) (names : List (List ℕ)) (i : ℕ) → number_of x names ≡ Some i → is_number i (number_of y names) ≡ bytes_eq x y
same_number x y names i d = by (cases_Bool (bytes_eq x y)) where
  unlike : (o : Option ℕ) → number_of y names ≡ o → bytes_eq x y ≡ false → is_number i o ≡ false
  unlike None e h = refl
  unlike (Some j) e h = other_number y x names j i e d (turned h) (cases_eq j i) where
    turned : bytes_eq x y ≡ false → bytes_eq y x ≡ false
    turned k = either (cases_Bool (bytes_eq y x)) where
      either : (bytes_eq y x ≡ true) ⊎ (bytes_eq y x ≡ false) → bytes_eq y x ≡ false
      either (inl t) = absurd (both_ways (bytes_eq x y) k ((bytes_eq-Decides x y).1 (sym ((bytes_eq-Decides y x).0 t))))
      either (inr f) = f

  by : (bytes_eq x y ≡ true) ⊎ (bytes_eq x y ≡ false) → is_number i (number_of y names) ≡ bytes_eq x y
  by (inl t) =
      let same : x ≡ y = (bytes_eq-Decides x y).0 t in
      let there : number_of y names ≡ Some i = sym (ap (λ z. number_of z names) same) ∙ d in
      ap (is_number i) there ∙ eq-eqb i i refl ∙ sym t
  by (inr f) = unlike (number_of y names) refl f ∙ sym f
