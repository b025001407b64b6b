-- Tokens one behind the other.
use Rattle.std.proofs.Common.{◌≡◌, ℕ, ◌+◌, ◌∙◌, ap, List, ◌∷◌, drop, arith}
use Rattle.tap_lexer.specs.Lexeme.{Lexeme}
use Rattle.tap_lexer.specs.inner.Reading.{Stands}

module _ (xs : List Lexeme) (at : ℕ) where
  pub two : (x y : Lexeme) → Stands xs at x → Stands xs (at + 1) y → drop at xs ≡ x ∷ y ∷ drop (at + 2) xs
  two x y p q = let n : (at + 1) + 1 ≡ at + 2 = omega arith in p.cut ∙ ap (λ k. x ∷ k) q.cut ∙ ap (λ k. x ∷ y ∷ drop k xs) n

  pub three : (x y v : Lexeme) → Stands xs at x → Stands xs (at + 1) y → Stands xs (at + 2) v → drop at xs ≡ x ∷ y ∷ v ∷ drop (at + 3) xs
  three x y v p q r = let n : (at + 2) + 1 ≡ at + 3 = omega arith in two x y p q ∙ ap (λ k. x ∷ y ∷ k) r.cut ∙ ap (λ k. x ∷ y ∷ v ∷ drop k xs) n

  pub four : (x y v z : Lexeme) → Stands xs at x → Stands xs (at + 1) y → Stands xs (at + 2) v → Stands xs (at + 3) z → drop at xs ≡ x ∷ y ∷ v ∷ z ∷ drop (at + 4) xs
  four x y v z p q r s = let n : (at + 3) + 1 ≡ at + 4 = omega arith in three x y v p q r ∙ ap (λ k. x ∷ y ∷ v ∷ k) s.cut ∙ ap (λ k. x ∷ y ∷ v ∷ z ∷ drop k xs) n

  pub five : (x y v z w : Lexeme) → Stands xs at x → Stands xs (at + 1) y → Stands xs (at + 2) v → Stands xs (at + 3) z → Stands xs (at + 4) w → drop at xs ≡ x ∷ y ∷ v ∷ z ∷ w ∷ drop (at + 5) xs
  five x y v z w p q r s t = let n : (at + 4) + 1 ≡ at + 5 = omega arith in four x y v z p q r s ∙ ap (λ k. x ∷ y ∷ v ∷ z ∷ k) t.cut ∙ ap (λ k. x ∷ y ∷ v ∷ z ∷ w ∷ drop k xs) n
