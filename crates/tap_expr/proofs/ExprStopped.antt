-- Where reading stopped, or where the tokens end.
use Rattle.std.proofs.Common.{◌≡◌, ℕ, ◌<◌, ◌≤◌, min, sym, ◌∙◌, ap, inl, inr, ◌⊎◌, List, length, None, le_of_lt, le_of_eq, arith}
use Rattle.std.specs.List.{slice_get}
use Rattle.std.proofs.Math.Nat.{min-eq_left, min-eq_right}
use Rattle.std.proofs.lemmas.Bool.{cases_lt}
use Rattle.std.proofs.lemmas.List.{length-map}
use Rattle.std.proofs.lemmas.Option.{slice_get_past}
use Rattle.tap_base.specs.declared.token.Token.{Token}
use Rattle.tap_lexer.specs.Lexeme.{lexeme, lexemes}
use Rattle.tap_lexer.specs.Places.{place_at, place_or, end_of}

-- before the end it is where reading stopped
pub before_end : (k n : ℕ) → min k n < n → min k n ≡ k
before_end k n h = by_order (cases_lt k n)
  where
    by_order : (k < n) ⊎ (n ≤ k) → min k n ≡ k
    by_order (inl l) = min-eq_left (le_of_lt l)
    by_order (inr g) = let e : min k n ≡ n = min-eq_right g in omega (arith, h, e)

-- all numbers beyond the tokens have the place where these end
same_place : (tokens : List Token) (k : ℕ) → place_at tokens k ≡ place_at tokens (min k (length tokens))
same_place tokens k = by_order (cases_lt k (length tokens))
  where
    by_order : (k < length tokens) ⊎ (length tokens ≤ k) → place_at tokens k ≡ place_at tokens (min k (length tokens))
    by_order (inl l) = ap (λ m. place_at tokens m) (sym (min-eq_left (le_of_lt l)))
    by_order (inr g) =
        let e : length tokens ≡ min k (length tokens) = sym (min-eq_right g) in
        let p : slice_get tokens k ≡ None = slice_get_past tokens k g in
        let q : slice_get tokens (min k (length tokens)) ≡ None = slice_get_past tokens (min k (length tokens)) (le_of_eq e) in
        ap (λ t. place_or (end_of tokens) t) (p ∙ sym q)

pub stopped_place : (text : List ℕ) (tokens : List Token) (k : ℕ) → place_at tokens k ≡ place_at tokens (min k (length (lexemes text tokens)))
stopped_place text tokens k = same_place tokens k ∙ ap (λ n. place_at tokens (min k n)) (sym (length-map tokens (lexeme text)))
