-- The tokens of a text have values of 64 bits.
use Rattle.std.proofs.Common.{◌≡◌, ◌<◌, ◌≤ℤ◌, ◌<ℤ◌, ◌^◌, ℕ, ℤ, pos, Bool, true, false, nat_lt, if◌then◌else◌, List, [], ◌∷◌, Some, None, Ok, Err, refl, subst, arith}
use Rattle.std.specs.Prelude.{int_le, int_lt, neg_ℤ, negsuc, ◌&&◌, ◌-◌}
use Rattle.std.proofs.lemmas.Bool.{ltb-true}
use Rattle.std.proofs.lemmas.Int.{ints}
use Rattle.std.proofs.lemmas.Option.{none-some, same_Some}
use Rattle.tap_base.specs.declared.place.Place.{Place}
use Rattle.tap_base.specs.declared.token.Token.{Token}
use Rattle.tap_base.specs.declared.token.TokenKind.{TokenKind}
use Rattle.tap_base.specs.declared.token.TokenKind.TheVariants.{Name, Number, Word, Symbol}
use Rattle.tap_base.specs.Lists.{Each}
use Rattle.tap_base.proofs.ListFacts.{each_map}
use Rattle.tap_lexer.specs.Lexeme.{Lexeme, lexeme, lexemes}
use Rattle.std.specs.Str.Parse.{digits_value}
use Rattle.tap_lexer.specs.Tokens.{Lexes, Comments, Outcome, end, blank, hash, token, large, odd, over, line, inside, foreign, before, value, SpellsTokens}
use Rattle.tap_types.specs.Given.{IsFit}

-- a number of 64 bits that has 64 bits with a sign too
abbrev pub IsNumeral : ℤ → Type 0
IsNumeral n = IsFit n × IsFit (neg_ℤ n)

both_hold : (a b : Bool) → a ≡ true → b ≡ true → (a && b) ≡ true
both_hold true b e f = f
both_hold false b e f = absurd cc

from_low : (x : ℤ) → negsuc (2 ^ 63 - 1) ≤ℤ x → int_le (negsuc (2 ^ 63 - 1)) x ≡ true
from_low x h = grind (arith, ints)

to_high : (x : ℤ) → x <ℤ pos (2 ^ 63) → int_lt x (pos (2 ^ 63)) ≡ true
to_high x h = grind (arith, ints)

bits_fit : (x : ℤ) → negsuc (2 ^ 63 - 1) ≤ℤ x → x <ℤ pos (2 ^ 63) → IsFit x
bits_fit x low high = both_hold (int_le (negsuc (2 ^ 63 - 1)) x) (int_lt x (pos (2 ^ 63))) (from_low x low) (to_high x high)

small_fits : (n : ℕ) → n < 2 ^ 63 → IsFit (pos n)
small_fits n h = bits_fit (pos n) (omega (arith, ints)) (omega (arith, ints, h))

negated_fits : (n : ℕ) → n < 2 ^ 63 → IsFit (neg_ℤ (pos n))
negated_fits n h = bits_fit (neg_ℤ (pos n)) (omega (arith, ints, h)) (omega (arith, ints))

number_fits : (n : ℕ) (b : Bool) (v : ℤ) → nat_lt n (2 ^ 63) ≡ b → (if b then Some (pos n) else None) ≡ Some v → IsNumeral v
number_fits n true v h e = let l = ltb-true n (2 ^ 63) h in subst IsNumeral (same_Some (pos n) v e) (small_fits n l, negated_fits n l)
number_fits n false v h e = absurd (none-some v e)

zero_fits : (v : ℤ) → Some (pos 0) ≡ Some v → IsNumeral v
zero_fits v e = subst IsNumeral (same_Some (pos 0) v e) (refl, refl)

value_fits : (k : TokenKind) (w : List ℕ) (v : ℤ) → value k w ≡ Some v → IsNumeral v
value_fits Number w v e = number_fits (digits_value 10 w) (nat_lt (digits_value 10 w) (2 ^ 63)) v refl e
value_fits Name w v e = zero_fits v e
value_fits Word w v e = zero_fits v e
value_fits Symbol w v e = zero_fits v e

abbrev TokenFits : Token → Type 0
TokenFits t = IsNumeral t.value

abbrev OutcomeFits : Outcome → Type 0
OutcomeFits (Ok tokens) = Each TokenFits tokens
OutcomeFits (Err refusal) = Unit {0}

one_before : (t : Token) (r : Outcome) → TokenFits t → OutcomeFits r → OutcomeFits (before (t ∷ []) r)
one_before t (Ok tokens) f h = (f, h)
one_before t (Err refusal) f h = tt

mutual
  lexes_fit : {at : ℕ} {p : Place} {w : List ℕ} {r : Outcome} → Lexes at p w r → OutcomeFits r
  lexes_fit end = tt
  lexes_fit (blank f l) = lexes_fit l
  lexes_fit (hash f l) = comment_fits l
  lexes_fit (token {at} {n} {p} {b} {bs} {k} {v} {r} g x l) = one_before _ r (value_fits k _ v x) (lexes_fit l)
  lexes_fit (large g x) = tt
  lexes_fit (odd f i g) = tt

  comment_fits : {at : ℕ} {p : Place} {w : List ℕ} {r : Outcome} → Comments at p w r → OutcomeFits r
  comment_fits over = tt
  comment_fits (line f l) = lexes_fit l
  comment_fits (inside f l) = comment_fits l
  comment_fits (foreign f) = tt

-- ---- lexemes

abbrev pub Fit : List Lexeme → Type 0
Fit ts = Each (λ x. IsNumeral x.value) ts

pub lexemes_fit : (text : List ℕ) (tokens : List Token) → SpellsTokens text tokens → Fit (lexemes text tokens)
lexemes_fit text tokens l = each_map TokenFits (λ x. IsNumeral x.value) (lexeme text) tokens (λ t f. f) (lexes_fit l)
