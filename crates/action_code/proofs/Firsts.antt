-- The first of lists that stand one after another.
use Rattle.std.proofs.Common.{◌≡◌, ◌+◌, ◌<◌, ◌≤◌, ℕ, true, List, [], ◌∷◌, ◌++◌, map, length, drop, get_or, refl, ap, slice_get, Option, Some, None}
use Rattle.std.specs.Option.{option_map}
use Rattle.std.proofs.lemmas.List.{drop_more, drop_all}
use Rattle.tap_base.specs.ListWords.{by_number}
use Rattle.register_code.specs.declared.bad.Part.TheVariants as part
use Rattle.register_code.specs.declared.code.Code.{Code}
use Rattle.register_code.specs.declared.code.CodeAction.{CodeAction}
use Rattle.register_code.specs.declared.code.CodeProcess.{CodeProcess}
use Rattle.register_code.specs.Declarations.{guard_fits, temporaries_fit}
use Rattle.register_code.specs.Verified.{action_breaks, part_breaks, site_of, where_broken}

pub first_some : {A : Type 0} (xs ys : List A) (x : A) → slice_get xs 0 ≡ Some x → slice_get (xs ++ ys) 0 ≡ Some x
first_some [] ys x e = cc
first_some (z ∷ zs) ys x e = e

pub first_none : {A : Type 0} (xs ys : List A) → slice_get xs 0 ≡ None → slice_get (xs ++ ys) 0 ≡ slice_get ys 0
first_none [] ys e = refl
first_none (z ∷ zs) ys e = cc

pub first_map : {A B : Type 0} (f : A → B) (xs : List A) → slice_get (map f xs) 0 ≡ option_map f (slice_get xs 0)
first_map f [] = refl
first_map f (x ∷ xs) = refl

-- what is left to go through
abbrev pub left : {A B : Type 0} → (ℕ → A → List B) → List A → ℕ → Option B
left f xs i = slice_get (by_number i f (drop i xs)) 0

pub left_here : {A B : Type 0} (f : ℕ → A → List B) (xs : List A) (i : ℕ) (d : A) (b : B) → i < length xs → slice_get (f i (get_or xs i d)) 0 ≡ Some b → left f xs i ≡ Some b
left_here f xs i d b l h = let next = drop_more xs i d l in rw next (first_some (f i (get_or xs i d)) (by_number (i + 1) f (drop (i + 1) xs)) b h)

pub left_next : {A B : Type 0} (f : ℕ → A → List B) (xs : List A) (i : ℕ) (d : A) → i < length xs → slice_get (f i (get_or xs i d)) 0 ≡ None → left f xs i ≡ left f xs (i + 1)
left_next f xs i d l h = let next = drop_more xs i d l in rw next (first_none (f i (get_or xs i d)) (by_number (i + 1) f (drop (i + 1) xs)) h)

pub left_none : {A B : Type 0} (f : ℕ → A → List B) (xs : List A) (i : ℕ) → length xs ≤ i → left f xs i ≡ None
left_none f xs i l = let done = drop_all i xs l in rw done refl

pub none_first : {A : Type 0} (xs : List A) → slice_get xs 0 ≡ None → xs ≡ []
none_first [] e = refl
none_first (x ∷ xs) e = cc

-- where temporaries and guard keep their rules, and so does the guard's code, the first rule is that of the body
pub body_first : (code : Code) (p : ℕ) (process : CodeProcess) (a : ℕ) (action : CodeAction) → temporaries_fit action ≡ true → guard_fits code p process action ≡ true
    → slice_get (part_breaks (site_of code p process action part.Guard) a) 0 ≡ None → slice_get (action_breaks code p process a action) 0 ≡ slice_get (part_breaks (site_of code p process action part.Body) a) 0
body_first code p process a action e f h =
    let low : where_broken (temporaries_fit action) p a part.Guard 0 2 ≡ [] = ap (λ b. where_broken b p a part.Guard 0 2) e in
    let agrees : where_broken (guard_fits code p process action) p a part.Guard 0 3 ≡ [] = ap (λ b. where_broken b p a part.Guard 0 3) f in
    last_of_four _ _ (part_breaks (site_of code p process action part.Guard) a) (part_breaks (site_of code p process action part.Body) a) low agrees h where
      last_of_four : {A : Type 0} (xs ys zs ws : List A) → xs ≡ [] → ys ≡ [] → slice_get zs 0 ≡ None → slice_get (xs ++ ys ++ zs ++ ws) 0 ≡ slice_get ws 0
      last_of_four [] [] zs ws k l m = first_none zs ws m
      last_of_four [] (y ∷ ys) zs ws k l m = cc
      last_of_four (x ∷ xs) ys zs ws k l m = cc
