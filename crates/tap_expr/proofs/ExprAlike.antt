-- Lists that agree up to a place.
use Rattle.std.proofs.Common.{◌≡◌, ℕ, zero, suc, ◌+◌, ◌<◌, ◌≤◌, refl, sym, ◌∙◌, ap, subst, List, [], ◌∷◌, take, drop, length, arith}
use Rattle.tap_base.specs.declared.token.Sign.{Sign}
use Rattle.tap_base.specs.declared.join.Join.{Join}
use Rattle.tap_lexer.specs.Lexeme.{Lexeme}
use Rattle.tap_lexer.specs.inner.Reading.{Stands, Lacks}
use Rattle.tap_lexer.specs.inner.Reading.{Shows}
use Rattle.tap_expr.specs.inner.ExprSigns.{Ends, NoRelation}
use Rattle.tap_expr.specs.inner.ExprReading.{Alike}

SameHead : List Lexeme → List Lexeme → Type 0
SameHead [] [] = Unit {0}
SameHead [] (y ∷ ys) = ⊥
SameHead (x ∷ xs) [] = ⊥
SameHead (x ∷ xs) (y ∷ ys) = x ≡ y

tails : (n : ℕ) (x y : Lexeme) (xs ys : List Lexeme) → x ∷ take n xs ≡ y ∷ take n ys → take n xs ≡ take n ys
tails n x y xs ys e = cc

heads : (k n : ℕ) (xs ys : List Lexeme) → k < n → Alike n xs ys → SameHead (drop k xs) (drop k ys)
unfolding SameHead
heads k zero xs ys h e = absurd (omega arith)
heads zero (suc n) [] [] h e = tt
heads zero (suc n) [] (y ∷ ys) h e = cc
heads zero (suc n) (x ∷ xs) [] h e = cc
heads zero (suc n) (x ∷ xs) (y ∷ ys) h e = cc
heads (suc k) (suc n) [] [] h e = tt
heads (suc k) (suc n) [] (y ∷ ys) h e = absurd cc
heads (suc k) (suc n) (x ∷ xs) [] h e = absurd cc
heads (suc k) (suc n) (x ∷ xs) (y ∷ ys) h e = heads k n xs ys (omega arith) (tails n x y xs ys e)

pub less : (m n : ℕ) (xs ys : List Lexeme) → m ≤ n → Alike n xs ys → Alike m xs ys
less zero n xs ys h e = refl
less (suc m) zero xs ys h e = absurd (omega arith)
less (suc m) (suc n) [] [] h e = refl
less (suc m) (suc n) [] (y ∷ ys) h e = absurd cc
less (suc m) (suc n) (x ∷ xs) [] h e = absurd cc
less (suc m) (suc n) (x ∷ xs) (y ∷ ys) h e = let t = less m n xs ys (omega arith) (tails n x y xs ys e) in let q : x ≡ y = cc in ap (λ k. x ∷ k) t ∙ ap (λ k. k ∷ take m ys) q

lacks_as : (s : Sign) (xs ys : List Lexeme) → SameHead xs ys → Lacks s xs → Lacks s ys
unfolding SameHead
lacks_as s [] [] e h = tt
lacks_as s [] (y ∷ ys) e h = absurd e
lacks_as s (x ∷ xs) [] e h = tt
lacks_as s (x ∷ xs) (y ∷ ys) e h = λ f. h (ap (λ (k : Lexeme). k.sign) e ∙ f)

ends_as : (j : Join) (xs ys : List Lexeme) → SameHead xs ys → Ends j xs → Ends j ys
unfolding SameHead
ends_as j [] [] e h = tt
ends_as j [] (y ∷ ys) e h = absurd e
ends_as j (x ∷ xs) [] e h = tt
ends_as j (x ∷ xs) (y ∷ ys) e h = let P : Lexeme → Type 0 = λ k. Ends j (k ∷ ys) in subst P e h

unrelated_as : (xs ys : List Lexeme) → SameHead xs ys → NoRelation xs → NoRelation ys
unfolding SameHead
unrelated_as [] [] e h = tt
unrelated_as [] (y ∷ ys) e h = absurd e
unrelated_as (x ∷ xs) [] e h = tt
unrelated_as (x ∷ xs) (y ∷ ys) e h = let P : Lexeme → Type 0 = λ k. NoRelation (k ∷ ys) in subst P e h

empty_as : (xs ys : List Lexeme) → SameHead xs ys → xs ≡ [] → ys ≡ []
unfolding SameHead
empty_as [] [] e h = refl
empty_as [] (y ∷ ys) e h = absurd e
empty_as (x ∷ xs) ys e h = absurd cc

first_as : (x : Lexeme) (us xs ys : List Lexeme) → SameHead xs ys → xs ≡ x ∷ us → (vs : List Lexeme) × (ys ≡ x ∷ vs)
unfolding SameHead
first_as x us [] ys e h = absurd cc
first_as x us (y ∷ xs) [] e h = absurd e
first_as x us (y ∷ xs) (z ∷ ys) e h = let q : y ≡ x = cc in (ys, ap (λ k. k ∷ ys) (sym e ∙ q))

cons_stands : (k : ℕ) (x : Lexeme) (ys vs : List Lexeme) → drop k ys ≡ x ∷ vs → Stands ys k x
cons_stands zero x [] vs e = absurd cc
cons_stands (suc k) x [] vs e = absurd cc
cons_stands zero x (y ∷ ys) vs e = let q : y ≡ x = cc in record { cut = ap (λ z. z ∷ ys) q; below = omega arith }
cons_stands (suc k) x (y ∷ ys) vs e = let w = cons_stands k x ys vs e in let n : suc k + 1 ≡ suc (k + 1) = omega arith in record { cut = w.cut ∙ ap (λ m. x ∷ drop m (y ∷ ys)) (sym n); below = let b = w.below in omega arith }

module _ (xs ys : List Lexeme) (n : ℕ) (same : Alike n xs ys) (k : ℕ) (h : k < n) where
  pub stands_as : (x : Lexeme) → Stands xs k x → Stands ys k x
  stands_as x w = let f = first_as x (drop (k + 1) xs) (drop k xs) (drop k ys) (heads k n xs ys h same) w.cut in cons_stands k x ys f.0 f.1

  pub shows_as : (s : Sign) → Shows s xs k → Shows s ys k
  shows_as s w = record { x = w.x; stands = stands_as w.x w.stands; is = w.is }

  pub lacks_at : (s : Sign) → Lacks s (drop k xs) → Lacks s (drop k ys)
  lacks_at s w = lacks_as s (drop k xs) (drop k ys) (heads k n xs ys h same) w

  pub ends_at : (j : Join) → Ends j (drop k xs) → Ends j (drop k ys)
  ends_at j w = ends_as j (drop k xs) (drop k ys) (heads k n xs ys h same) w

  pub unrelated_at : NoRelation (drop k xs) → NoRelation (drop k ys)
  unrelated_at w = unrelated_as (drop k xs) (drop k ys) (heads k n xs ys h same) w

  pub empty_at : drop k xs ≡ [] → drop k ys ≡ []
  empty_at w = empty_as (drop k xs) (drop k ys) (heads k n xs ys h same) w

not_empty : (k : ℕ) (xs : List Lexeme) → k < length xs → drop k xs ≡ [] → ⊥
not_empty k [] h e = omega arith
not_empty zero (x ∷ xs) h e = cc
not_empty (suc k) (x ∷ xs) h e = not_empty k xs (omega arith) e

empty_back : (xs ys : List Lexeme) → SameHead xs ys → ys ≡ [] → xs ≡ []
unfolding SameHead
empty_back [] ys e h = refl
empty_back (x ∷ xs) [] e h = absurd e
empty_back (x ∷ xs) (y ∷ ys) e h = cc

pub longer_as : (xs ys : List Lexeme) (n : ℕ) → Alike n xs ys → (k : ℕ) → k < n → k < length xs → drop k ys ≡ [] → ⊥
longer_as xs ys n same k h l e = not_empty k xs l (empty_back (drop k xs) (drop k ys) (heads k n xs ys h same) e)
