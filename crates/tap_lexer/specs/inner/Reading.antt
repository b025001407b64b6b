-- Where a token stands, and what it means that a form stands there.
use Rattle.std.specs.Prelude.{◌≡◌, ℕ, ◌+◌, ◌<◌, List, [], ◌∷◌, Option, Some, None, drop, length}
use Rattle.tap_base.specs.declared.token.Sign.{Sign}
use Rattle.tap_base.specs.declared.token.Token.{Token}
use Rattle.tap_lexer.specs.Lexeme.{Lexeme, lexeme, lexemes}

-- x is the token at a place
pub record Stands (xs : List Lexeme) (at : ℕ) (x : Lexeme) : Type 0 where
  pub cut : drop at xs ≡ x ∷ drop (at + 1) xs
  pub below : at < length xs

-- the token at a place, and where it has the sign
abbrev pub Seen : List ℕ → List Token → ℕ → Option Token → Type 0
Seen text tokens at None = drop at (lexemes text tokens) ≡ []
Seen text tokens at (Some t) = Stands (lexemes text tokens) at (lexeme text t)

-- another sign stands first, or nothing
abbrev pub Lacks : Sign → List Lexeme → Type 0
Lacks s [] = Unit {0}
Lacks s (x ∷ us) = x.sign ≡ s → ⊥

-- x is the token at a place, and has the sign
pub record IsTaken (s : Sign) (xs : List Lexeme) (at : ℕ) (x : Lexeme) : Type 0 where
  pub stands : Stands xs at x
  pub is : x.sign ≡ s

-- some token with the sign stands at a place
pub record Shows (s : Sign) (xs : List Lexeme) (at : ℕ) : Type 0 where
  pub x : Lexeme
  pub stands : Stands xs at x
  pub is : x.sign ≡ s

-- the token at a place, if it has the sign
abbrev pub Taken : Sign → List ℕ → List Token → ℕ → Option Token → Type 0
Taken s text tokens at None = Lacks s (drop at (lexemes text tokens))
Taken s text tokens at (Some t) = IsTaken s (lexemes text tokens) at (lexeme text t)

-- a form, and a token with the sign that closes it
pub data Closed {A : Type 0} (Item : A → List Lexeme → List Lexeme → Type 0) (s : Sign) : A → List Lexeme → List Lexeme → Type 0 where
  closed : {a : A} {x : Lexeme} {ts us : List Lexeme} → Item a ts (x ∷ us) → x.sign ≡ s → Closed Item s a ts us

-- anything may follow
abbrev pub Free : List Lexeme → Type 0
Free us = Unit {0}

-- No such form stands there.
abbrev pub Never : {A : Type 0} → (A → List Lexeme → List Lexeme → Type 0) → (List Lexeme → Type 0) → List Lexeme → Type 0
Never {A} Item Stops ts = (a : A) (us : List Lexeme) → Item a ts us → Stops us → ⊥

-- No other such form stands there.
abbrev pub Only : {A : Type 0} → (A → List Lexeme → List Lexeme → Type 0) → (List Lexeme → Type 0) → List Lexeme → A → List Lexeme → Type 0
Only {A} Item Stops ts a us = (b : A) (ws : List Lexeme) → Item b ts ws → Stops ws → (b ≡ a) × (ws ≡ us)
