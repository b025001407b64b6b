-- Loops over the elements of a list: what is left to be judged behind an element that gives nothing, what stands before the
-- next one, and what one more that is found adds.
use Rattle.std.proofs.Common.{◌≡◌, ℕ, ◌+◌, ◌<◌, refl, sym, ◌∙◌, ap, subst, List, [], ◌∷◌, ◌++◌, append_assoc, Option, Some, None, length, drop, take, get_or, map}
use Rattle.std.specs.Prelude.{Result, Ok, Err, IsErrAnd, flat_map}
use Rattle.std.specs.Option.{option_map, option_and_then}
use Rattle.std.proofs.lemmas.List.{take_more, map-append}
use Rattle.tap_base.specs.Option.{each}
use Rattle.tap_base.specs.ListWords.{behind, by_number, each_by_number, first, joined, some_of}
use Rattle.tap_base.proofs.ListFacts.{cut_at_item}

-- ---- the first of lists one behind the other

-- the first of a front is that of the whole
pub first_front : {A : Type 0} (xs ys : List A) (x : A) → first xs ≡ Some x → first (xs ++ ys) ≡ Some x
first_front [] ys x e = absurd cc
first_front (y ∷ xs) ys x e = e

-- behind an empty front comes the first of the rest
pub first_back : {A : Type 0} (xs ys : List A) (x : A) → xs ≡ [] → first ys ≡ Some x → first (xs ++ ys) ≡ Some x
first_back xs ys x e h = ap (λ z. first (z ++ ys)) e ∙ h

-- where there is no first, there is none
pub first_none : {A : Type 0} (xs : List A) → first xs ≡ None → xs ≡ []
first_none [] e = refl
first_none (x ∷ xs) e = absurd cc

-- a fault of a part is passed on by any answer that tells of one
pub fault_passed : {A E : Type 0} (F : E → Type 0) (P : Result A E → Type 0) → ((d : E) → F d → P (Err d)) → (r : Result A E) (e : E) → IsErrAnd r (λ d. d ≡ e) → F e → P r
fault_passed F P to (Ok x) e h k = absurd h
fault_passed F P to (Err d) e h k = to d (subst F (sym h) k)

-- ---- what is left to be judged: from the element at hand on, and behind one that gives nothing

module _ {A B : Type 0} (f : A → List B) (xs : List A) (i : ℕ) (x : A) (l : i < length xs) (q : x ≡ get_or xs i x) where
  pub joined_cut : joined (map f (drop i xs)) ≡ joined (map f xs) → f x ++ joined (map f (drop (i + 1) xs)) ≡ joined (map f xs)
  joined_cut k = sym (ap (λ z. joined (map f z)) (cut_at_item xs i x l q)) ∙ k

  pub joined_on : f x ≡ [] → joined (map f (drop i xs)) ≡ joined (map f xs) → joined (map f (drop (i + 1) xs)) ≡ joined (map f xs)
  joined_on h k = ap (λ z. z ++ joined (map f (drop (i + 1) xs))) (sym h) ∙ joined_cut k

  pub flat_cut : flat_map f (drop i xs) ≡ flat_map f xs → f x ++ flat_map f (drop (i + 1) xs) ≡ flat_map f xs
  flat_cut k = sym (ap (flat_map f) (cut_at_item xs i x l q)) ∙ k

  pub flat_on : f x ≡ [] → flat_map f (drop i xs) ≡ flat_map f xs → flat_map f (drop (i + 1) xs) ≡ flat_map f xs
  flat_on h k = ap (λ z. z ++ flat_map f (drop (i + 1) xs)) (sym h) ∙ flat_cut k

module _ {A B : Type 0} (f : ℕ → A → List B) (xs : List A) (i : ℕ) (x : A) (l : i < length xs) (q : x ≡ get_or xs i x) where
  pub numbered_cut : by_number i f (drop i xs) ≡ by_number 0 f xs → f i x ++ by_number (i + 1) f (drop (i + 1) xs) ≡ by_number 0 f xs
  numbered_cut k = sym (ap (by_number i f) (cut_at_item xs i x l q)) ∙ k

  pub numbered_on : f i x ≡ [] → by_number i f (drop i xs) ≡ by_number 0 f xs → by_number (i + 1) f (drop (i + 1) xs) ≡ by_number 0 f xs
  numbered_on h k = ap (λ z. z ++ by_number (i + 1) f (drop (i + 1) xs)) (sym h) ∙ numbered_cut k

-- what stands before the next one
pub before_next : {A : Type 0} (xs : List A) (i : ℕ) (x : A) → i < length xs → x ≡ get_or xs i x → take (i + 1) xs ≡ take i xs ++ x ∷ []
before_next xs i x l q = take_more xs i x l ∙ ap (λ z. take i xs ++ z ∷ []) (sym q)

-- what is said of them
pub said_next : {A B : Type 0} (f : A → B) (xs : List A) (i : ℕ) (x : A) → i < length xs → x ≡ get_or xs i x → map f (take (i + 1) xs) ≡ map f (take i xs) ++ f x ∷ []
said_next f xs i x l q = ap (map f) (before_next xs i x l q) ∙ map-append f (take i xs) (x ∷ [])

module _ {A B : Type 0} (f : List A → A → List B) (xs : List A) (i : ℕ) (x : A) (l : i < length xs) (q : x ≡ get_or xs i x) where
  pub behind_cut : behind f (take i xs) (drop i xs) ≡ behind f [] xs → f (take i xs) x ++ behind f (take (i + 1) xs) (drop (i + 1) xs) ≡ behind f [] xs
  behind_cut k =
      ap (λ z. f (take i xs) x ++ behind f z (drop (i + 1) xs)) (before_next xs i x l q) ∙ sym (ap (behind f (take i xs)) (cut_at_item xs i x l q)) ∙ k

  pub behind_on : f (take i xs) x ≡ [] → behind f (take i xs) (drop i xs) ≡ behind f [] xs → behind f (take (i + 1) xs) (drop (i + 1) xs) ≡ behind f [] xs
  behind_on h k = ap (λ z. z ++ behind f (take (i + 1) xs) (drop (i + 1) xs)) (sym h) ∙ behind_cut k

-- the same of what is said of the elements
module _ {A B C : Type 0} (g : C → A) (f : List A → A → List B) (xs : List C) (i : ℕ) (x : C) (l : i < length xs) (q : x ≡ get_or xs i x) where
  pub said_cut : behind f (map g (take i xs)) (map g (drop i xs)) ≡ behind f [] (map g xs)
      → f (map g (take i xs)) (g x) ++ behind f (map g (take (i + 1) xs)) (map g (drop (i + 1) xs)) ≡ behind f [] (map g xs)
  said_cut k =
      ap (λ z. f (map g (take i xs)) (g x) ++ behind f z (map g (drop (i + 1) xs))) (said_next g xs i x l q)
      ∙ sym (ap (λ z. behind f (map g (take i xs)) (map g z)) (cut_at_item xs i x l q)) ∙ k

  pub said_on : f (map g (take i xs)) (g x) ≡ [] → behind f (map g (take i xs)) (map g (drop i xs)) ≡ behind f [] (map g xs)
      → behind f (map g (take (i + 1) xs)) (map g (drop (i + 1) xs)) ≡ behind f [] (map g xs)
  said_on h k = ap (λ z. z ++ behind f (map g (take (i + 1) xs)) (map g (drop (i + 1) xs))) (sym h) ∙ said_cut k

-- ---- lists that grow with the loop

-- one more that is found
pub pushed : {B : Type 0} (found : List B) (y : B) (o : Option (List B)) → option_map (λ rest. (found ++ y ∷ []) ++ rest) o ≡ option_map (λ rest. found ++ rest) (option_and_then (λ ys. Some (y ∷ ys)) o)
pushed found y None = refl
pushed found y (Some ys) = ap Some (append_assoc found (y ∷ []) ys)

-- where each gives something, and the element at hand gives y
pub grown : {B : Type 0} (o : Option B) (rest : Option (List B)) (y : B) (found next : List B) → next ≡ found ++ y ∷ [] → o ≡ Some y
    → option_map (λ ys. next ++ ys) rest ≡ option_map (λ ys. found ++ ys) (option_and_then (λ w. option_and_then (λ ys. Some (w ∷ ys)) rest) o)
grown o rest y found next n h =
    ap (λ z. option_map (λ ys. z ++ ys) rest) n ∙ pushed found y rest
    ∙ ap (λ z. option_map (λ ys. found ++ ys) (option_and_then (λ w. option_and_then (λ ys. Some (w ∷ ys)) rest) z)) (sym h)

module _ {A B : Type 0} (f : A → Option B) (xs : List A) (i : ℕ) (x : A) (l : i < length xs) (q : x ≡ get_or xs i x) where
  pub some_on : (y : B) (found next : List B) → next ≡ found ++ y ∷ [] → f x ≡ Some y → option_map (λ rest. found ++ rest) (some_of (map f (drop i xs))) ≡ some_of (map f xs) → option_map (λ rest. next ++ rest) (some_of (map f (drop (i + 1) xs))) ≡ some_of (map f xs)
  some_on y found next n h k =
      grown (f x) (some_of (map f (drop (i + 1) xs))) y found next n h
      ∙ sym (ap (λ z. option_map (λ rest. found ++ rest) (some_of (map f z))) (cut_at_item xs i x l q)) ∙ k

  -- the same without a list of answers between
  pub each_on : (y : B) (found next : List B) → next ≡ found ++ y ∷ [] → f x ≡ Some y → option_map (λ rest. found ++ rest) (each f (drop i xs)) ≡ each f xs → option_map (λ rest. next ++ rest) (each f (drop (i + 1) xs)) ≡ each f xs
  each_on y found next n h k =
      grown (f x) (each f (drop (i + 1) xs)) y found next n h
      ∙ sym (ap (λ z. option_map (λ rest. found ++ rest) (each f z)) (cut_at_item xs i x l q)) ∙ k

module _ {A B : Type 0} (f : ℕ → A → Option B) (xs : List A) (i : ℕ) (x : A) (l : i < length xs) (q : x ≡ get_or xs i x) where
  pub collected_on : (y : B) (found next : List B) → next ≡ found ++ y ∷ [] → f i x ≡ Some y → option_map (λ rest. found ++ rest) (each_by_number i f (drop i xs)) ≡ each_by_number 0 f xs
      → option_map (λ rest. next ++ rest) (each_by_number (i + 1) f (drop (i + 1) xs)) ≡ each_by_number 0 f xs
  collected_on y found next n h k =
      grown (f i x) (each_by_number (i + 1) f (drop (i + 1) xs)) y found next n h
      ∙ sym (ap (λ z. option_map (λ rest. found ++ rest) (each_by_number i f z)) (cut_at_item xs i x l q)) ∙ k

module _ {A B : Type 0} (f : A → B) (xs : List A) (i : ℕ) (x : A) (l : i < length xs) (q : x ≡ get_or xs i x) where
  -- found so far and still to come
  pub map_on : {C : Type 0} (g : C → B) (y : C) (found next : List C) → next ≡ found ++ y ∷ [] → f x ≡ g y → map g found ++ map f (drop i xs) ≡ map f xs → map g next ++ map f (drop (i + 1) xs) ≡ map f xs
  map_on g y found next n h k =
      let rest = map f (drop (i + 1) xs) in
      ap (λ z. map g z ++ rest) n ∙ ap (λ z. z ++ rest) (map-append g found (y ∷ [])) ∙ append_assoc (map g found) (g y ∷ []) rest
      ∙ ap (λ z. map g found ++ z ∷ rest) (sym h) ∙ sym (ap (λ z. map g found ++ map f z) (cut_at_item xs i x l q)) ∙ k

  -- found of those before
  pub taken_on : (found next : List B) → next ≡ found ++ f x ∷ [] → found ≡ map f (take i xs) → next ≡ map f (take (i + 1) xs)
  taken_on found next n h = n ∙ ap (λ z. z ++ f x ∷ []) h ∙ sym (said_next f xs i x l q)

-- numbered ones, found so far and still to come
pub entries_on : {A B : Type 0} (f : ℕ → A → B) (xs : List A) (i : ℕ) (x : A) → i < length xs → x ≡ get_or xs i x → (old new all : List B) → new ≡ old ++ f i x ∷ [] → old ++ by_number i (λ n y. f n y ∷ []) (drop i xs) ≡ all → new ++ by_number (i + 1) (λ n y. f n y ∷ []) (drop (i + 1) xs) ≡ all
entries_on {A} {B} f xs i x l q old new all n h =
    let F : ℕ → A → List B = λ n y. f n y ∷ [] in
    let rest = by_number (i + 1) F (drop (i + 1) xs) in
    ap (λ z. z ++ rest) n ∙ append_assoc old (f i x ∷ []) rest ∙ sym (ap (λ z. old ++ by_number i F z) (cut_at_item xs i x l q)) ∙ h
