-- A token with its sign and its text.
use Rattle.std.specs.Prelude.{ℕ, ℤ, List, map, slice_range}
use Rattle.tap_base.specs.declared.place.Place.{Place}
use Rattle.tap_base.specs.declared.token.Sign.{Sign}
use Rattle.tap_base.specs.declared.token.Token.{Token}
use Rattle.tap_lexer.specs.Words.{sign_of}

pub record Lexeme : Type 0 where
  pub sign : Sign
  pub text : List ℕ
  pub value : ℤ
  pub place : Place

-- the token of a text with what it shows there
abbrev pub lexeme : List ℕ → Token → Lexeme
lexeme text t = record {
  sign = sign_of t.kind (slice_range text t.start t.end);
  text = slice_range text t.start t.end;
  value = t.value;
  place = t.place;
}

abbrev pub lexemes : List ℕ → List Token → List Lexeme
lexemes text tokens = map (lexeme text) tokens
