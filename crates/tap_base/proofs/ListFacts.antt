-- Facts of the elements of lists: of each of them, of those at one place in two lists, and of the one at a place.
use Rattle.std.proofs.Common.{◌≡◌, ◌+◌, ◌<◌, ◌≤◌, ℕ, zero, suc, List, [], ◌∷◌, ◌++◌, map, flat_map, replicate, length, drop, refl, ap, sym, subst, ◌∙◌, get_or, slice_get, slice_set, Some, None, arith, ◌||◌, Bool, true, false}
use Rattle.std.specs.Prelude.{◌↔◌}
use Rattle.std.specs.List.{list_any}
use Rattle.std.specs.Option.{option_map}
use Rattle.std.proofs.lemmas.List.{drop-drop, drop_more}
use Rattle.std.proofs.lemmas.Option.{none-some, same_Some, slice_get_within, get_or_from_slice_get}
use Rattle.tap_base.specs.Lists.{Each, EachBoth, EachFrom}
use Rattle.tap_base.specs.Option.{is_yes}

-- ---- each element

-- a fact of each element is one of the element at a place
pub each_at : {A : Type 0} (P : A → Type 0) (xs : List A) (k : ℕ) (x : A) → Each P xs → slice_get xs k ≡ Some x → P x
each_at P [] k x h e = absurd (none-some x e)
each_at P (y ∷ ys) zero x h e = subst P (same_Some y x e) h.0
each_at P (y ∷ ys) (suc k) x h e = each_at P ys k x h.1 e

pub each_index : {A : Type 0} (P : A → Type 0) (xs : List A) (k : ℕ) (d : A) → k < length xs → Each P xs → P (get_or xs k d)
each_index P [] k d l h = absurd (omega arith)
each_index P (y ∷ xs) zero d l h = h.0
each_index P (y ∷ xs) (suc k) d l h = each_index P xs k d (omega arith) h.1

pub each_of : {A : Type 0} (P : A → Type 0) (xs : List A) → ((x : A) → P x) → Each P xs
each_of P [] g = tt
each_of P (x ∷ xs) g = (g x, each_of P xs g)

pub each_weaker : {A : Type 0} (P Q : A → Type 0) (xs : List A) → ((x : A) → P x → Q x) → Each P xs → Each Q xs
each_weaker P Q [] g h = tt
each_weaker P Q (x ∷ xs) g h = (g x h.0, each_weaker P Q xs g h.1)

pub each_first : {A : Type 0} (P Q : A → Type 0) (xs : List A) → Each (λ x. P x × Q x) xs → Each P xs
each_first P Q xs h = each_weaker (λ x. P x × Q x) P xs (λ x p. p.0) h

pub each_second : {A : Type 0} (P Q : A → Type 0) (xs : List A) → Each (λ x. P x × Q x) xs → Each Q xs
each_second P Q xs h = each_weaker (λ x. P x × Q x) Q xs (λ x p. p.1) h

pub each_both : {A : Type 0} (P Q : A → Type 0) (xs : List A) → Each P xs → Each Q xs → Each (λ x. P x × Q x) xs
each_both P Q [] p q = tt
each_both P Q (x ∷ xs) p q = ((p.0, q.0), each_both P Q xs p.1 q.1)

-- four facts of each element, as one
pub each_of_four : {A : Type 0} (P Q R S T : A → Type 0) (xs : List A) → ((x : A) → P x → Q x → R x → S x → T x) → Each P xs → Each Q xs → Each R xs → Each S xs → Each T xs
each_of_four P Q R S T [] k h i j l = tt
each_of_four P Q R S T (x ∷ xs) k h i j l = (k x h.0 i.0 j.0 l.0, each_of_four P Q R S T xs k h.1 i.1 j.1 l.1)

pub each_set : {A : Type 0} (P : A → Type 0) (xs : List A) (k : ℕ) (x : A) → Each P xs → P x → Each P (slice_set xs k x)
each_set P [] k x h f = tt
each_set P (y ∷ ys) zero x h f = (f, h.1)
each_set P (y ∷ ys) (suc k) x h f = (h.0, each_set P ys k x h.1 f)

pub each_append : {A : Type 0} (P : A → Type 0) (xs ys : List A) → Each P xs → Each P ys → Each P (xs ++ ys)
each_append P [] ys h k = k
each_append P (x ∷ xs) ys h k = (h.0, each_append P xs ys h.1 k)

pub each_split : {A : Type 0} (P : A → Type 0) (xs ys : List A) → Each P (xs ++ ys) → Each P xs × Each P ys
each_split P [] ys h = (tt, h)
each_split P (x ∷ xs) ys h = let r = each_split P xs ys h.1 in ((h.0, r.0), r.1)

pub each_more : {A : Type 0} (P : A → Type 0) (xs : List A) (x : A) → Each P xs → P x → Each P (xs ++ x ∷ [])
each_more P xs x h k = each_append P xs (x ∷ []) h (k, tt)

pub each_map : {A B : Type 0} (P : A → Type 0) (Q : B → Type 0) (f : A → B) (xs : List A) → ((x : A) → P x → Q (f x)) → Each P xs → Each Q (map f xs)
each_map P Q f [] g h = tt
each_map P Q f (x ∷ xs) g h = (g x h.0, each_map P Q f xs g h.1)

pub each_flat_of : {A B : Type 0} (Q : A → Type 0) (P : B → Type 0) (f : A → List B) (xs : List A) → ((x : A) → Q x → Each P (f x)) → Each Q xs → Each P (flat_map f xs)
each_flat_of Q P f [] g h = tt
each_flat_of Q P f (x ∷ xs) g h = each_append P (f x) (flat_map f xs) (g x h.0) (each_flat_of Q P f xs g h.1)

pub each_flat : {A B : Type 0} (P : B → Type 0) (f : A → List B) (xs : List A) → ((x : A) → Each P (f x)) → Each P (flat_map f xs)
each_flat P f [] g = tt
each_flat P f (x ∷ xs) g = each_append P (f x) (flat_map f xs) (g x) (each_flat P f xs g)

pub each_replicate : {A : Type 0} (P : A → Type 0) (n : ℕ) (x : A) → P x → Each P (replicate n x)
each_replicate P zero x h = tt
each_replicate P (suc n) x h = (h, each_replicate P n x h)

-- a loop over the elements goes on where the fact holds of one
pub each_on_item : {A R : Type 0} (P : A → Type 0) (items xs : List A) (i : ℕ) (x : A) → items ≡ xs → i < length items → x ≡ get_or items i x → P x → (Each P (drop i xs) ↔ R) → Each P (drop (i + 1) xs) ↔ R
each_on_item {A} {R} P items xs i x e l q h k =
    let F : List A → Type 0 = λ z. Each P (drop i z) ↔ R in
    let G : List A → Type 0 = λ z. Each P (drop (i + 1) z) ↔ R in
    let cut : drop i items ≡ x ∷ drop (i + 1) items = drop_more items i x l ∙ ap (λ z. z ∷ drop (i + 1) items) (sym q) in
    let H : List A → Type 0 = λ z. Each P z ↔ R in
    let n : Each P (x ∷ drop (i + 1) items) ↔ R = subst H cut (subst F (sym e) k) in
    subst G e (λ t. n.0 (h, t), λ r. (n.1 r).1)

-- ---- each element with its place

each_from_at : {A : Type 0} (P : ℕ → A → Type 0) (n : ℕ) (xs : List A) (k : ℕ) (x : A) → EachFrom n P xs → slice_get xs k ≡ Some x → P (n + k) x
each_from_at P n [] k x h e = cc
each_from_at P n (y ∷ ys) zero x h e = let same : y ≡ x = cc in let here : n ≡ n + 0 = omega arith in subst (λ m. P m x) here (subst (P n) same h.0)
each_from_at P n (y ∷ ys) (suc k) x h e = let next : n + 1 + k ≡ n + suc k = omega arith in subst (λ m. P m x) next (each_from_at P (n + 1) ys k x h.1 e)

pub numbered_at : {A : Type 0} (P : ℕ → A → Type 0) (xs : List A) (k : ℕ) (x : A) → EachFrom 0 P xs → slice_get xs k ≡ Some x → P k x
numbered_at P xs k x h e = let same : 0 + k ≡ k = omega arith in subst (λ m. P m x) same (each_from_at P 0 xs k x h e)

-- a loop over the elements goes on where the fact of its place holds of one
pub each_from_on_item : {A R : Type 0} (P : ℕ → A → Type 0) (items xs : List A) (i : ℕ) (x : A) → items ≡ xs → i < length items → x ≡ get_or items i x → P i x → (EachFrom i P (drop i xs) ↔ R) → EachFrom (i + 1) P (drop (i + 1) xs) ↔ R
each_from_on_item {A} {R} P items xs i x e l q h k =
    let F : List A → Type 0 = λ z. EachFrom i P (drop i z) ↔ R in
    let G : List A → Type 0 = λ z. EachFrom (i + 1) P (drop (i + 1) z) ↔ R in
    let cut : drop i items ≡ x ∷ drop (i + 1) items = drop_more items i x l ∙ ap (λ z. z ∷ drop (i + 1) items) (sym q) in
    let H : List A → Type 0 = λ z. EachFrom i P z ↔ R in
    let n : EachFrom i P (x ∷ drop (i + 1) items) ↔ R = subst H cut (subst F (sym e) k) in
    subst G e (λ t. n.0 (h, t), λ r. (n.1 r).1)

-- ---- the elements at one place in two lists

pub both_at : {A B : Type 0} (R : A → B → Type 0) (xs : List A) (ys : List B) (k : ℕ) (x : A) (y : B)
    → EachBoth R xs ys → slice_get xs k ≡ Some x → slice_get ys k ≡ Some y → R x y
both_at R [] ys k x y h d e = cc
both_at R (a ∷ as_) [] k x y h d e = cc
both_at R (a ∷ as_) (b ∷ bs) zero x y h d e =
    let left : a ≡ x = cc in let right : b ≡ y = cc in subst (λ z. R x z) right (subst (λ z. R z b) left h.0)
both_at R (a ∷ as_) (b ∷ bs) (suc k) x y h d e = both_at R as_ bs k x y h.1 d e

pub both_set : {A B : Type 0} (R : A → B → Type 0) (xs : List A) (ys : List B) (k : ℕ) (x : A) (y : B)
    → EachBoth R xs ys → slice_get xs k ≡ Some x → R x y → EachBoth R xs (slice_set ys k y)
both_set R [] ys k x y h d f = tt
both_set R (a ∷ as_) [] k x y h d f = tt
both_set R (a ∷ as_) (b ∷ bs) zero x y h d f = let same : x ≡ a = cc in (subst (λ z. R z y) same f, h.1)
both_set R (a ∷ as_) (b ∷ bs) (suc k) x y h d f = (h.0, both_set R as_ bs k x y h.1 d f)

pub both_append : {A B : Type 0} (R : A → B → Type 0) (xs us : List A) (ys ws : List B)
    → length xs ≡ length ys → EachBoth R xs ys → EachBoth R us ws → EachBoth R (xs ++ us) (ys ++ ws)
both_append R [] us [] ws e h k = k
both_append R [] us (y ∷ ys) ws e h k = absurd (omega (arith, e))
both_append R (x ∷ xs) us [] ws e h k = absurd (omega (arith, e))
both_append R (x ∷ xs) us (y ∷ ys) ws e h k = (h.0, both_append R xs us ys ws (omega (arith, e)) h.1 k)

pub both_replicate : {A B : Type 0} (R : A → B → Type 0) (n : ℕ) (x : A) (y : B) → R x y → EachBoth R (replicate n x) (replicate n y)
both_replicate R zero x y h = tt
both_replicate R (suc n) x y h = (h, both_replicate R n x y h)

pub both_map : {A B C : Type 0} (R : B → C → Type 0) (f : A → B) (g : A → C) (P : A → Type 0) (xs : List A)
    → ((x : A) → P x → R (f x) (g x)) → Each P xs → EachBoth R (map f xs) (map g xs)
both_map R f g P [] k h = tt
both_map R f g P (x ∷ xs) k h = (k x h.0, both_map R f g P xs k h.1)

-- ---- a list is empty exactly where both of its parts are

pub none_both : {A : Type 0} (xs ys : List A) → xs ≡ [] → ys ≡ [] → xs ++ ys ≡ []
none_both xs ys a b = ap (λ z. z ++ ys) a ∙ b

pub both_empty : {A : Type 0} (xs ys : List A) → xs ++ ys ≡ [] → (xs ≡ []) × (ys ≡ [])
both_empty [] ys e = (refl, e)
both_empty (x ∷ xs) ys e = absurd cc

pub none_first : {A : Type 0} (xs ys : List A) → xs ++ ys ≡ [] → xs ≡ []
none_first xs ys e = (both_empty xs ys e).0

pub none_second : {A : Type 0} (xs ys : List A) → xs ++ ys ≡ [] → ys ≡ []
none_second xs ys e = (both_empty xs ys e).1

-- ---- the element at a place

-- there is one, where the list is long enough
pub element_at : {A : Type 0} (xs : List A) (k : ℕ) → k < length xs → (x : A) × (slice_get xs k ≡ Some x)
element_at [] k h = absurd (omega (arith, h))
element_at (x ∷ xs) zero h = (x, refl)
element_at (x ∷ xs) (suc k) h = element_at xs k (omega (arith, h))

-- and where another list of the same length has one
pub element_beside : {A B : Type 0} (xs : List A) (ys : List B) (k : ℕ) (y : B) → length xs ≡ length ys → slice_get ys k ≡ Some y → (x : A) × (slice_get xs k ≡ Some x)
element_beside xs ys k y e h = element_at xs k (omega (arith, e, slice_get_within ys k y h))

-- and where the same is said of another list that has one
pub element_alike : {A B C : Type 0} (f : A → C) (g : B → C) (xs : List A) (ys : List B) (k : ℕ) (y : B)
    → map f xs ≡ map g ys → slice_get ys k ≡ Some y → (x : A) × (slice_get xs k ≡ Some x) × (f x ≡ g y)
element_alike f g xs [] k y e h = cc
element_alike f g [] (b ∷ bs) k y e h = cc
element_alike f g (a ∷ as_) (b ∷ bs) zero y e h = (a, refl, cc)
element_alike f g (a ∷ as_) (b ∷ bs) (suc k) y e h = let rest : map f as_ ≡ map g bs = cc in element_alike f g as_ bs k y rest h

-- where there is none, the list has ended
pub past_end : {A : Type 0} (xs : List A) (k : ℕ) → slice_get xs k ≡ None → length xs ≤ k
past_end [] k e = omega arith
past_end (x ∷ xs) zero e = absurd (none-some x (sym e))
past_end (x ∷ xs) (suc k) e = let r = past_end xs k e in omega arith

-- a list from a place on begins with the element there
pub cut_at : {A : Type 0} (xs : List A) (k : ℕ) (x : A) → slice_get xs k ≡ Some x → drop k xs ≡ x ∷ drop (k + 1) xs
cut_at xs k x e = drop_more xs k x (slice_get_within xs k x e) ∙ ap (λ y. y ∷ drop (k + 1) xs) (get_or_from_slice_get xs k x x e)

-- the same of the element that a loop has come to
pub cut_at_item : {A : Type 0} (items : List A) (i : ℕ) (x : A) → i < length items → x ≡ get_or items i x → drop i items ≡ x ∷ drop (i + 1) items
cut_at_item items i x h e = drop_more items i x h ∙ ap (λ y. y ∷ drop (i + 1) items) (sym e)

pub behind_first : {A : Type 0} (xs : List A) (k : ℕ) (y : A) (ys : List A) → drop k xs ≡ y ∷ ys → drop (k + 1) xs ≡ ys
behind_first xs k y ys e = sym (drop-drop 1 k xs) ∙ ap (drop 1) e

-- ---- equal lists

pub empty : {A : Type 0} (xs : List A) → length xs ≡ 0 → xs ≡ []
empty [] e = refl
empty (x ∷ xs) e = absurd (omega (arith, e))

pub same_parts : {A : Type 0} (x y : A) (xs ys : List A) → x ∷ xs ≡ y ∷ ys → (x ≡ y) × (xs ≡ ys)
same_parts x y xs ys e = (cc, cc)

-- what is said of each element stays, where it is the same of the new one
pub map_set : {A C : Type 0} (f : A → C) (xs : List A) (k : ℕ) (x y : A) → slice_get xs k ≡ Some x → f y ≡ f x → map f (slice_set xs k y) ≡ map f xs
map_set f [] k x y h e = refl
map_set f (a ∷ as_) zero x y h e = let same : a ≡ x = cc in ap (λ z. z ∷ map f as_) (e ∙ ap f (sym same))
map_set f (a ∷ as_) (suc k) x y h e = ap (λ zs. f a ∷ zs) (map_set f as_ k x y h e)

pub set_same : {A : Type 0} (xs : List A) (k : ℕ) (x : A) → slice_get xs k ≡ Some x → slice_set xs k x ≡ xs
set_same [] k x h = refl
set_same (a ∷ as_) zero x h = let same : a ≡ x = cc in ap (λ z. z ∷ as_) (sym same)
set_same (a ∷ as_) (suc k) x h = ap (λ zs. a ∷ zs) (set_same as_ k x h)

-- what is said of each element stays, where a change of each leaves it
pub map_same : {A B : Type 0} (g : A → A) (f : A → B) → ((a : A) → f (g a) ≡ f a) → (xs : List A) → map f (map g xs) ≡ map f xs
map_same g f h [] = refl
map_same g f h (a ∷ as_) = ap (λ x. x ∷ map f (map g as_)) (h a) ∙ ap (λ xs. f a ∷ xs) (map_same g f h as_)

pub flat_same : {A B : Type 0} (g : A → A) (f : A → List B) → ((a : A) → f (g a) ≡ f a) → (xs : List A) → flat_map f (map g xs) ≡ flat_map f xs
flat_same g f h [] = refl
flat_same g f h (a ∷ as_) = ap (λ x. x ++ flat_map f (map g as_)) (h a) ∙ ap (λ xs. f a ++ xs) (flat_same g f h as_)

pub none_any : {A : Type 0} (f : A → Bool) (xs : List A) → ((b : ℕ) → b < length xs → is_yes (option_map f (slice_get xs b)) ≡ false) → list_any f xs ≡ false
none_any f [] h = refl
none_any f (x ∷ xs) h =
    let first : f x ≡ false = h 0 (omega arith) in
    let rest : list_any f xs ≡ false = none_any f xs (λ b l. h (suc b) (omega (arith, l))) in
    rw (first, rest) refl

pub some_any : {A : Type 0} (f : A → Bool) (xs : List A) (b : ℕ) → is_yes (option_map f (slice_get xs b)) ≡ true → list_any f xs ≡ true
some_any f [] b h = cc
some_any f (x ∷ xs) zero h = let first : f x ≡ true = h in rw first refl
some_any f (x ∷ xs) (suc b) h = let rest = some_any f xs b h in either (f x) (list_any f xs) rest where
  either : (b d : Bool) → d ≡ true → (b || d) ≡ true
  either true d e = refl
  either false d e = e
