-- The place of a token by its number, and the place where the tokens end.
use Rattle.std.specs.Prelude.{ℕ, ◌-◌, List, length, slice_get, Option, Some, None}
use Rattle.tap_base.specs.declared.place.Place.{Place}
use Rattle.tap_base.specs.declared.token.Token.{Token}
use Rattle.tap_lexer.specs.Bytes.{start, along}

-- the place just behind a token; where there is none, the start of the text
abbrev pub behind : Option Token → Place
behind None = start
behind (Some t) = along (t.end - t.start) t.place

-- the place just behind the last of the tokens
abbrev pub end_of : List Token → Place
end_of tokens = behind (slice_get tokens (length tokens - 1))

abbrev pub place_or : Place → Option Token → Place
place_or p None = p
place_or p (Some t) = t.place

-- the place of the token number k, or where there is none, where the tokens end
abbrev pub place_at : List Token → ℕ → Place
place_at tokens k = place_or (end_of tokens) (slice_get tokens k)
