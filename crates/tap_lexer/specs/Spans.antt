-- Where the tokens of a text stand in it.
use Rattle.std.specs.Prelude.{◌≡◌, ℕ, ◌≤◌, List, [], ◌∷◌, length, slice_get, slice_range, Some}
use Rattle.std.specs.Str.{IsAscii}
use Rattle.tap_base.specs.declared.token.Token.{Token}
use Rattle.tap_lexer.specs.Tokens.{IsToken, value}

-- the token is a part of the text: bytes of ASCII that are a token of its kind, with its value
pub record IsText (text : List ℕ) (t : Token) : Type 0 where
  pub ordered : t.start ≤ t.end
  pub within : t.end ≤ length text
  pub ascii : IsAscii (slice_range text t.start t.end)
  pub token : IsToken t.kind (slice_range text t.start t.end)
  pub valued : value t.kind (slice_range text t.start t.end) ≡ Some t.value

-- each of the tokens is a part of the text
abbrev pub AreTexts : List ℕ → List Token → Type 0
AreTexts text tokens = (k : ℕ) (t : Token) → slice_get tokens k ≡ Some t → IsText text t

-- from the byte number at on, the tokens stand one behind the other
abbrev pub InOrder : ℕ → List Token → Type 0
InOrder at [] = Unit {0}
InOrder at (t ∷ tokens) = (at ≤ t.start) × InOrder t.end tokens
