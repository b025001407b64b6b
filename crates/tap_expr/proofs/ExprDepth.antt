-- The depth of brackets, token by token.
use Rattle.std.proofs.Common.{◌≡◌, ℕ, zero, suc, ◌+◌, ◌-◌, ◌<◌, ◌≤◌, refl, sym, ◌∙◌, ap, List, [], ◌∷◌, Some, Bool, true, false, take, drop, length, option_map, below_more, arith}
use mir.Val.{bool_byte}
use Rattle.std.specs.List.{slice_get}
use Rattle.std.proofs.lemmas.Option.{slice_get-map, slice_get_within}
use Rattle.std.proofs.lemmas.List.{length-drop}
use Rattle.tap_base.specs.declared.token.Sign.{Sign}
use Rattle.tap_base.specs.declared.token.Token.{Token}
use Rattle.tap_lexer.specs.Lexeme.{Lexeme, lexeme, lexemes}
use Rattle.tap_lexer.specs.Depth.{opens, closes, one_if, count_signs, deepest, OpensAt, IsTooDeep, IsShallow}

-- one token more counts if its sign passes
count_more : (test : Sign → Bool) (xs : List Lexeme) (k : ℕ) (x : Lexeme) → slice_get xs k ≡ Some x → count_signs test (take (k + 1) xs) ≡ count_signs test (take k xs) + one_if (test x.sign)
count_more test [] k x e = absurd cc
count_more test (y ∷ xs) zero x e = let q : y ≡ x = cc in let s : one_if (test y.sign) ≡ one_if (test x.sign) = ap (λ (z : Lexeme). one_if (test z.sign)) q in omega (arith, s)
count_more test (y ∷ xs) (suc k) x e =
    let h = count_more test xs k x e in
    let n : suc k + 1 ≡ suc (k + 1) = omega arith in
    let g : one_if (test y.sign) + count_signs test (take (k + 1) xs) ≡ (one_if (test y.sign) + count_signs test (take k xs)) + one_if (test x.sign) = omega (arith, h) in
    ap (λ m. count_signs test (take m (y ∷ xs))) n ∙ g

count_length : (test : Sign → Bool) (xs : List Lexeme) (k : ℕ) → count_signs test (take k xs) ≤ k
count_length test [] zero = omega arith
count_length test [] (suc k) = omega arith
count_length test (x ∷ xs) zero = omega arith
count_length test (x ∷ xs) (suc k) = go (test x.sign) (count_length test xs k)
  where
    go : (b : Bool) → count_signs test (take k xs) ≤ k → one_if b + count_signs test (take k xs) ≤ suc k
    go true h = omega arith
    go false h = omega arith

pub byte_is : (b : Bool) → bool_byte b ≡ one_if b
byte_is true = refl
byte_is false = refl

pub byte_small : (n : ℕ) (b : Bool) → n ≡ bool_byte b → n ≤ 1
byte_small n true e = omega arith
byte_small n false e = omega arith

-- what is known of the tokens before a place
pub record Passed (xs : List Lexeme) (at opened closed : ℕ) : Type 0 where
  pub opens_are : count_signs opens (take at xs) ≡ opened
  pub closes_are : count_signs closes (take at xs) ≡ closed
  pub shallow : (k : ℕ) → k < at → OpensAt deepest xs k → ⊥

pub passed_bounds : (xs : List Lexeme) (at opened closed : ℕ) → Passed xs at opened closed → (opened ≤ at) × (closed ≤ at)
passed_bounds xs at opened closed p = let a = p.opens_are in let b = p.closes_are in let c = count_length opens xs at in let d = count_length closes xs at in (omega (arith, a, c), omega (arith, b, d))

pub passed_none : (xs : List Lexeme) → Passed xs 0 0 0
passed_none xs = record { opens_are = refl; closes_are = refl; shallow = λ k h d. omega arith }

pub passed_as : (xs : List Lexeme) (n a b c d : ℕ) → a ≡ b → c ≡ d → Passed xs n b d → Passed xs n a c
passed_as xs n a b c d e f p = record { opens_are = p.opens_are ∙ sym e; closes_are = p.closes_are ∙ sym f; shallow = p.shallow }

same_token : (xs : List Lexeme) (k : ℕ) (x y : Lexeme) → slice_get xs k ≡ Some x → slice_get xs k ≡ Some y → x ≡ y
same_token xs k x y e f = cc

module _ (xs : List Lexeme) (at opened closed : ℕ) (p : Passed xs at opened closed) (x : Lexeme) (there : slice_get xs at ≡ Some x) where
  pub too_deep : opens x.sign ≡ true → opened + 1 ≡ closed + 33 → IsTooDeep xs at
  too_deep o e =
      let a = p.opens_are in let b = p.closes_are in
      let m = count_more opens xs at x there in
      let one : one_if (opens x.sign) ≡ 1 = ap one_if o in
      record {
        opens = record { token = x; stands = there; opening = o; deep = omega (arith, a, b, m, one, e) };
        first = p.shallow;
      }

  not_here : (opens x.sign ≡ true → opened + 1 ≡ closed + 33 → ⊥) → OpensAt deepest xs at → ⊥
  not_here n d =
      let q : d.token ≡ x = same_token xs at d.token x d.stands there in
      let o : opens x.sign ≡ true = ap (λ (z : Lexeme). opens z.sign) (sym q) ∙ d.opening in
      let a = p.opens_are in let b = p.closes_are in
      let m = count_more opens xs at x there in
      let one : one_if (opens x.sign) ≡ 1 = ap one_if o in
      let deep = d.deep in
      n o (omega (arith, a, b, m, one, deep))

  pub passed_more : (opens x.sign ≡ true → opened + 1 ≡ closed + 33 → ⊥) → Passed xs (at + 1) (opened + one_if (opens x.sign)) (closed + one_if (closes x.sign))
  passed_more n = record {
    opens_are = count_more opens xs at x there ∙ ap (λ t. t + one_if (opens x.sign)) p.opens_are;
    closes_are = count_more closes xs at x there ∙ ap (λ t. t + one_if (closes x.sign)) p.closes_are;
    shallow = below_more _ _ p.shallow (not_here n);
  }

pub all_shallow : (xs : List Lexeme) (at opened closed : ℕ) → Passed xs at opened closed → drop at xs ≡ [] → IsShallow xs
all_shallow xs at opened closed p e k d =
    let within = slice_get_within xs k d.token d.stands in
    let gone : length (drop at xs) ≡ 0 = ap length e in
    let left = length-drop at xs in
    p.shallow k (omega (arith, within, gone, left)) d

pub at_token : (text : List ℕ) (ts : List Token) (k : ℕ) (t : Token) → Some t ≡ slice_get ts k → slice_get (lexemes text ts) k ≡ Some (lexeme text t)
at_token text ts k t e = slice_get-map (lexeme text) ts k ∙ ap (option_map (lexeme text)) (sym e)
