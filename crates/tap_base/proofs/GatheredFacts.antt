-- Facts of what the elements of a list give, one behind the other: where nothing is given, where each gives one, and where
-- they are judged by those before them.
use Rattle.std.proofs.Common.{◌≡◌, ℕ, ◌+◌, ◌<◌, ◌≤◌, zero, suc, refl, ap, sym, ◌∙◌, subst, List, [], ◌∷◌, ◌++◌, append_assoc, Option, Some, map, length, slice_get, arith, zero-add}
use Rattle.std.specs.Prelude.{IsSome, flat_map, sum}
use Rattle.std.specs.Option.{option_and_then}
use Rattle.std.proofs.lemmas.List.{append-nil, length-append, map-append}
use Rattle.std.proofs.lemmas.List.Sums.{sum_by-append}
use Rattle.std.proofs.lemmas.Option.{none-some, same_Some}
use Rattle.tap_base.specs.Lists.{AreDistinct, Each, IsNoneOf}
use Rattle.tap_base.specs.ListWords.{behind, by_number, joined, some_of}
use Rattle.tap_base.specs.Option.{each}
use Rattle.tap_base.proofs.DistinctFacts.{distinct_more}
use Rattle.tap_base.proofs.ListFacts.{none_first, none_second}
use Rattle.tap_base.proofs.OptionFacts.{bound, then_some}

-- ---- where each gives something

-- what the elements of a list give, where each gives something
pub each_first_of : {A B : Type 0} (f : A → Option B) (x : A) (xs : List A) (ys : List B) → each f (x ∷ xs) ≡ Some ys → (b : B) × (bs : List B) × (f x ≡ Some b) × (each f xs ≡ Some bs) × (b ∷ bs ≡ ys)
each_first_of {A} {B} f x xs ys e =
    let a = bound (λ y. option_and_then (λ zs. Some (y ∷ zs)) (each f xs)) (f x) ys e in
    let c = bound (λ zs. Some (a.0 ∷ zs)) (each f xs) ys a.2 in
    (a.0, c.0, a.1, c.1, same_Some (a.0 ∷ c.0) ys c.2)

pub each_length : {A B : Type 0} (f : A → Option B) (xs : List A) (ys : List B) → each f xs ≡ Some ys → length ys ≡ length xs
each_length f [] ys e = ap length (sym (same_Some [] ys e))
each_length f (x ∷ xs) ys e =
    let r = each_first_of f x xs ys e in
    let n = each_length f xs r.1 r.3 in
    ap length (sym r.4) ∙ ap suc n

-- what the element at a place gives stands there
pub each_there : {A B : Type 0} (f : A → Option B) (xs : List A) (ys : List B) (k : ℕ) (x : A) → each f xs ≡ Some ys → slice_get xs k ≡ Some x → (y : B) × (slice_get ys k ≡ Some y) × (f x ≡ Some y)
each_there {A} {B} f [] ys k x e h = absurd (none-some x h)
each_there {A} {B} f (a ∷ as_) ys zero x e h =
    let r = each_first_of f a as_ ys e in
    (r.0, ap (λ z. slice_get z 0) (sym r.4), ap f (sym (same_Some a x h)) ∙ r.2)
each_there {A} {B} f (a ∷ as_) ys (suc k) x e h =
    let r = each_first_of f a as_ ys e in
    let s = each_there f as_ r.1 k x r.3 h in
    (s.0, ap (λ z. slice_get z (suc k)) (sym r.4) ∙ s.1, s.2)

-- a fact of each that is found, by one of what it is found from
pub each_found : {A B : Type 0} (f : A → Option B) (G : A → Type 0) (Q : B → Type 0) → ((x : A) (y : B) → G x → f x ≡ Some y → Q y) → (xs : List A) (ys : List B) → Each G xs → each f xs ≡ Some ys → Each Q ys
each_found f G Q k [] ys g e = let s = same_Some [] ys e in subst (Each Q) s tt
each_found f G Q k (x ∷ xs) ys g e =
    let r = each_first_of f x xs ys e in
    subst (Each Q) r.4 (k x r.0 g.0 r.2, each_found f G Q k xs r.1 g.1 r.3)

-- what is said of each that is found, where the same is said of what it is found from
pub each_alike : {A B C : Type 0} (f : A → Option B) (g : A → C) (h : B → C) → ((x : A) (y : B) → f x ≡ Some y → h y ≡ g x) → (xs : List A) (ys : List B) → each f xs ≡ Some ys → map h ys ≡ map g xs
each_alike f g h k [] ys e = ap (map h) (sym (same_Some [] ys e))
each_alike f g h k (x ∷ xs) ys e =
    let r = each_first_of f x xs ys e in
    ap (map h) (sym r.4) ∙ ap (λ z. z ∷ map h r.1) (k x r.0 r.2) ∙ ap (λ z. g x ∷ z) (each_alike f g h k xs r.1 r.3)

-- ---- a fact of each that is found, where what it is found from gives no R

pub each_good : {A B R : Type 0} (f : A → Option B) (O : A → List R) (G : A → Type 0) (Q : B → Type 0) → ((x : A) (y : B) → G x → O x ≡ [] → f x ≡ Some y → Q y) → (xs : List A) (ys : List B) → Each G xs → flat_map O xs ≡ [] → each f xs ≡ Some ys → Each Q ys
each_good f O G Q k [] ys g o e = let s = same_Some [] ys e in subst (Each Q) s tt
each_good f O G Q k (x ∷ xs) ys g o e =
    let r = each_first_of f x xs ys e in
    subst (Each Q) r.4 (k x r.0 g.0 (none_first (O x) (flat_map O xs) o) r.2, each_good f O G Q k xs r.1 g.1 (none_second (O x) (flat_map O xs) o) r.3)

-- the same, where it is judged by its number
pub each_numbered_good : {A B R : Type 0} (f : A → Option B) (O : ℕ → A → List R) (G : A → Type 0) (Q : B → Type 0) → ((n : ℕ) (x : A) (y : B) → G x → O n x ≡ [] → f x ≡ Some y → Q y) → (n : ℕ) (xs : List A) (ys : List B) → Each G xs → by_number n O xs ≡ [] → each f xs ≡ Some ys → Each Q ys
each_numbered_good f O G Q k n [] ys g o e = let s = same_Some [] ys e in subst (Each Q) s tt
each_numbered_good f O G Q k n (x ∷ xs) ys g o e =
    let r = each_first_of f x xs ys e in
    subst (Each Q) r.4 (k n x r.0 g.0 (none_first (O n x) (by_number (n + 1) O xs) o) r.2, each_numbered_good f O G Q k (n + 1) xs r.1 g.1 (none_second (O n x) (by_number (n + 1) O xs) o) r.3)

-- ---- all are found, where none gives an R

-- one more that is found
one_some : {B : Type 0} (o : Option B) (rest : Option (List B)) → IsSome o → IsSome rest → IsSome (option_and_then (λ y. option_and_then (λ ys. Some (y ∷ ys)) rest) o)
one_some o rest h k = then_some (λ y. option_and_then (λ ys. Some (y ∷ ys)) rest) o h (λ y. then_some (λ ys. Some (y ∷ ys)) rest k (λ ys. refl))

pub each_some : {A B R : Type 0} (f : A → Option B) (O : A → List R) → ((x : A) → O x ≡ [] → IsSome (f x)) → (xs : List A) → flat_map O xs ≡ [] → IsSome (each f xs)
each_some f O k [] h = refl
each_some f O k (x ∷ xs) h = one_some (f x) (each f xs) (k x (none_first (O x) _ h)) (each_some f O k xs (none_second (O x) _ h))

pub each_numbered : {A B R : Type 0} (f : A → Option B) (O : ℕ → A → List R) → ((n : ℕ) (x : A) → O n x ≡ [] → IsSome (f x)) → (n : ℕ) (xs : List A) → by_number n O xs ≡ [] → IsSome (each f xs)
each_numbered f O k n [] h = refl
each_numbered f O k n (x ∷ xs) h = one_some (f x) (each f xs) (k n x (none_first (O n x) _ h)) (each_numbered f O k (n + 1) xs (none_second (O n x) _ h))

pub mapped_some : {A B R : Type 0} (O : A → List R) (f : A → Option B) → ((x : A) → O x ≡ [] → IsSome (f x)) → (xs : List A) → joined (map O xs) ≡ [] → IsSome (some_of (map f xs))
mapped_some O f k [] h = refl
mapped_some O f k (x ∷ xs) h = one_some (f x) (some_of (map f xs)) (k x (none_first (O x) _ h)) (mapped_some O f k xs (none_second (O x) _ h))

-- the same of elements that have it with them
pub all_some : {A B R : Type 0} (O : A → List R) (f : A → Option B) (xs : List ((x : A) × (O x ≡ [] → IsSome (f x)))) → joined (map O (map (λ e. e.0) xs)) ≡ [] → IsSome (some_of (map f (map (λ e. e.0) xs)))
all_some O f [] h = refl
all_some O f (x ∷ xs) h = one_some (f x.0) (some_of (map f (map (λ e. e.0) xs))) (x.1 (none_first (O x.0) _ h)) (all_some O f xs (none_second (O x.0) _ h))

-- ---- those that are judged by those before them

module _ {A R : Type 0} (f : List A → A → List R) where
  -- a fact of each
  pub behind_each : (Q : A → Type 0) → ((before : List A) (x : A) → f before x ≡ [] → Q x) → (before xs : List A) → behind f before xs ≡ [] → Each Q xs
  behind_each Q k before [] h = tt
  behind_each Q k before (x ∷ xs) h = (k before x (none_first (f before x) (behind f (before ++ x ∷ []) xs) h), behind_each Q k (before ++ x ∷ []) xs (none_second (f before x) (behind f (before ++ x ∷ []) xs) h))

  -- a fact that one more keeps
  pub behind_kept : (P : List A → Type 0) → ((before : List A) (x : A) → P before → f before x ≡ [] → P (before ++ x ∷ [])) → (before xs : List A) → P before → behind f before xs ≡ [] → P (before ++ xs)
  behind_kept P k before [] p h = subst P (sym (append-nil before)) p
  behind_kept P k before (x ∷ xs) p h =
      let next = k before x p (none_first (f before x) (behind f (before ++ x ∷ []) xs) h) in
      let all = behind_kept P k (before ++ x ∷ []) xs next (none_second (f before x) (behind f (before ++ x ∷ []) xs) h) in
      subst P (append_assoc before (x ∷ []) xs) all

  -- what is said of them is distinct, behind others too
  pub behind_distinct : {C : Type 0} (g : A → C) (others : List C) → AreDistinct others → ((before : List A) (x : A) → f before x ≡ [] → IsNoneOf (g x) (others ++ map g before)) → (xs : List A) → behind f [] xs ≡ [] → AreDistinct (others ++ map g xs)
  behind_distinct g others d k xs h =
      behind_kept (λ z. AreDistinct (others ++ map g z)) one_more [] xs (subst AreDistinct (sym (append-nil others)) d) h
    where
      one_more : (before : List A) (x : A) → AreDistinct (others ++ map g before) → f before x ≡ [] → AreDistinct (others ++ map g (before ++ x ∷ []))
      one_more before x p e =
          let all : AreDistinct ((others ++ map g before) ++ g x ∷ []) = distinct_more (others ++ map g before) (g x) p (k before x e) in
          let same : (others ++ map g before) ++ g x ∷ [] ≡ others ++ map g (before ++ x ∷ []) = append_assoc others (map g before) (g x ∷ []) ∙ ap (λ z. others ++ z) (sym (map-append g before (x ∷ []))) in
          subst AreDistinct same all

  -- there are no more than so many
  pub behind_few : (most : ℕ) → ((before : List A) (x : A) → f before x ≡ [] → length before < most) → (xs : List A) → behind f [] xs ≡ [] → length xs ≤ most
  behind_few most k xs h = behind_kept (λ z. length z ≤ most) one_more [] xs (omega arith) h
    where
      one_more : (before : List A) (x : A) → length before ≤ most → f before x ≡ [] → length (before ++ x ∷ []) ≤ most
      one_more before x p e = omega (arith, k before x e, length-append before (x ∷ []))

  -- nor is their sum more
  pub behind_little : (n : A → ℕ) (most : ℕ) → ((before : List A) (x : A) → f before x ≡ [] → sum (map n before) + n x ≤ most) → (xs : List A) → behind f [] xs ≡ [] → sum (map n xs) ≤ most
  behind_little n most k xs h = behind_kept (λ z. sum (map n z) ≤ most) one_more [] xs (omega arith) h
    where
      one_more : (before : List A) (x : A) → sum (map n before) ≤ most → f before x ≡ [] → sum (map n (before ++ x ∷ [])) ≤ most
      one_more before x p e =
          let same : sum (map n (before ++ x ∷ [])) ≡ sum (map n before) + n x = ap sum (map-append n before (x ∷ [])) ∙ sum_by-append (λ z. z) (map n before) (n x ∷ []) ∙ ap (λ z. sum (map n before) + z) (zero-add (n x)) in
          omega (arith, k before x e, same)
