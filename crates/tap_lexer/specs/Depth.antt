-- How deep the brackets of a text go.
use Rattle.std.specs.Prelude.{◌≡◌, ℕ, ◌+◌, ◌<◌, Bool, true, false, List, [], ◌∷◌, take, slice_get, Some}
use Rattle.tap_base.specs.declared.token.Sign.{Sign}
use Rattle.tap_base.specs.declared.token.Sign.TheVariants as sign
use Rattle.tap_lexer.specs.Lexeme.{Lexeme}

abbrev pub opens : Sign → Bool
opens sign.Open = true
opens sign.OpenIndex = true
opens sign.If = true
opens sign.Do = true
opens _ = false

abbrev pub closes : Sign → Bool
closes sign.Close = true
closes sign.CloseIndex = true
closes sign.Fi = true
closes sign.Od = true
closes _ = false

abbrev pub one_if : Bool → ℕ
one_if true = 1
one_if false = 0

-- how many of the tokens have a sign that passes the test
abbrev pub count_signs : (Sign → Bool) → List Lexeme → ℕ
count_signs test [] = 0
count_signs test (x ∷ xs) = one_if (test x.sign) + count_signs test xs

-- the depth at which no token may stand
abbrev pub deepest : ℕ
deepest = 33

-- The token number k opens a bracket of this depth: the tokens up to and with it that open one are as
-- many more than those before it that close one.
pub record OpensAt (depth : ℕ) (xs : List Lexeme) (k : ℕ) : Type 0 where
  pub token : Lexeme
  pub stands : slice_get xs k ≡ Some token
  pub opening : opens token.sign ≡ true
  pub deep : count_signs opens (take (k + 1) xs) ≡ count_signs closes (take k xs) + depth

-- The token number k is the first that opens a bracket of the depth that none may have.
pub record IsTooDeep (xs : List Lexeme) (k : ℕ) : Type 0 where
  pub opens : OpensAt deepest xs k
  pub first : (i : ℕ) → i < k → OpensAt deepest xs i → ⊥

-- No token opens a bracket of that depth.
abbrev pub IsShallow : List Lexeme → Type 0
IsShallow xs = (k : ℕ) → OpensAt deepest xs k → ⊥
