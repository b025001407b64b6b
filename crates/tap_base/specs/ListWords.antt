-- Words on lists: first elements, lists one behind the other, and what elements give by their numbers or by those before
-- them.
use Rattle.std.specs.Prelude.{ℕ, ◌+◌, List, [], ◌∷◌, ◌++◌, Option, Some, None}
use Rattle.tap_base.specs.Option.{◌>>=◌, each}

-- the first element
abbrev pub first : {A : Type 0} → List A → Option A
first [] = None
first (x ∷ xs) = Some x

-- the one element, where there is exactly one
abbrev pub only : {A : Type 0} → List A → Option A
only [] = None
only (x ∷ []) = Some x
only (x ∷ y ∷ ys) = None

-- lists one behind the other
abbrev pub joined : {A : Type 0} → List (List A) → List A
joined [] = []
joined (x ∷ xs) = x ++ joined xs

-- the elements, where each of them is there
abbrev pub some_of : {A : Type 0} → List (Option A) → Option (List A)
some_of xs = each (λ x. x) xs

-- what each element gives, by its number, counted from n
abbrev pub by_number : {A B : Type 0} → ℕ → (ℕ → A → List B) → List A → List B
by_number n f [] = []
by_number n f (x ∷ xs) = f n x ++ by_number (n + 1) f xs

-- the same where each may give nothing: the elements that they give, where each gives one
abbrev pub each_by_number : {A B : Type 0} → ℕ → (ℕ → A → Option B) → List A → Option (List B)
each_by_number n f [] = Some []
each_by_number n f (x ∷ xs) = do
  y ← f n x
  ys ← each_by_number (n + 1) f xs
  Some (y ∷ ys)

-- what each element gives, by the elements that stand before it: those of the first list, and those of its own
abbrev pub behind : {A B : Type 0} → (List A → A → List B) → List A → List A → List B
behind f before [] = []
behind f before (x ∷ xs) = f before x ++ behind f (before ++ x ∷ []) xs
