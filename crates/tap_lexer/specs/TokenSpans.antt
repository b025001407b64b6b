-- Which tokens a text has, or which first offence, said of spans of the text: between tokens stand gaps, each token is the longest that begins at its first byte, and places count line feeds.
use Rattle.std.specs.Prelude.{◌≡◌, ℕ, ◌+◌, ◌-◌, ◌≤◌, true, false, not, List, [], ◌∷◌, ◌++◌, length, take, drop, reverse, slice_get, slice_range, Some, None, Ok, Err, ◌↔◌}
use Rattle.std.specs.List.{count_by, prefix_len}
use Rattle.tap_base.specs.declared.place.Place.{Place}
use Rattle.tap_base.specs.declared.refusal.Refusal.{Refusal}
use Rattle.tap_base.specs.declared.refusal.RefusalCode.TheVariants as code
use Rattle.tap_base.specs.declared.token.TokenKind.TheVariants.{Number}
use Rattle.tap_base.specs.declared.token.Token.{Token}
use Rattle.tap_lexer.specs.Bytes.{is_blank, is_hash, is_line_feed, in_alphabet, in_comment}
use Rattle.tap_lexer.specs.Tokens.{AllPass, Longest, NoToken, value, LexesTo}

-- the place of the byte number n: its line is one more than the line feeds before it, its column one more than the bytes between the last of them and it
abbrev pub place_of : List ℕ → ℕ → Place
place_of text n = record {
  line = count_by is_line_feed (take n text) + 1;
  column = prefix_len (λ b. not (is_line_feed b)) (reverse (take n text)) + 1;
}

-- where bytes end: outside of comments, or inside of one
pub data Side : Type 0 where
  outside : Side
  inside : Side

-- `#`, and behind it bytes of its line
abbrev pub IsComment : List ℕ → Type 0
IsComment [] = ⊥
IsComment (b ∷ bs) = (is_hash b ≡ true) × AllPass in_comment bs

-- blanks and comments, each comment up to its line feed; a comment that is not yet over may end them
pub data Gap : Side → List ℕ → Type 0 where
  nothing : Gap outside []
  begun : {cs : List ℕ} → IsComment cs → Gap inside cs
  blank_more : {s : Side} {b : ℕ} {bs : List ℕ} → is_blank b ≡ true → Gap s bs → Gap s (b ∷ bs)
  comment_more : {s : Side} (cs : List ℕ) (b : ℕ) (bs : List ℕ) → IsComment cs → is_line_feed b ≡ true → Gap s bs → Gap s (cs ++ b ∷ bs)

-- the token stands in the text: it is the longest that begins at its first byte, with the value of its bytes and the place of that byte
pub record HasToken (text : List ℕ) (t : Token) : Type 0 where
  pub ordered : t.start ≤ t.end
  pub longest : Longest t.kind (t.end - t.start) (drop t.start text)
  pub valued : value t.kind (slice_range text t.start t.end) ≡ Some t.value
  pub placed : t.place ≡ place_of text t.start

-- from the byte number at up to the byte number n these tokens stand in the text, and nothing else but a gap before each of them and a last gap, which ends on the side
abbrev pub Stand : Side → List ℕ → ℕ → ℕ → List Token → Type 0
Stand s text at n [] = (at ≤ n) × Gap s (slice_range text at n)
Stand s text at n (t ∷ ts) = (at ≤ t.start) × Gap outside (slice_range text at t.start) × HasToken text t × Stand s text t.end n ts

-- these tokens stand in the text, up to its end
abbrev pub HasTokens : List ℕ → List Token → Type 0
HasTokens text ts = (s : Side) × Stand s text 0 (length text) ts

-- the byte number n, outside of comments or inside of one, is an offence: outside no blank, comment or token begins at it, or a number that is too large; inside it is none of the alphabet
pub data OffenceAt (text : List ℕ) (n : ℕ) : Side → Refusal → Type 0 where
  stray : {b : ℕ} → slice_get text n ≡ Some b → is_blank b ≡ false → is_hash b ≡ false → NoToken (drop n text) → OffenceAt text n outside (record { code = code.L1; place = place_of text n })
  foreign : {b : ℕ} → slice_get text n ≡ Some b → in_alphabet b ≡ false → OffenceAt text n inside (record { code = code.L1; place = place_of text n })
  large : {m : ℕ} → Longest Number m (drop n text) → value Number (take m (drop n text)) ≡ None → OffenceAt text n outside (record { code = code.L2; place = place_of text n })

-- tokens stand in the text up to this offence, which is its first
abbrev pub HasOffence : List ℕ → Refusal → Type 0
HasOffence text refusal = (s : Side) × (n : ℕ) × (ts : List Token) × Stand s text 0 n ts × OffenceAt text n s refusal

-- the two ways to say what tokens a text has are one
abbrev pub SameTokens : Type 0
SameTokens = (text : List ℕ) (ts : List Token) → LexesTo text (Ok ts) ↔ HasTokens text ts

-- and so are the two ways to say what its first offence is
abbrev pub SameOffences : Type 0
SameOffences = (text : List ℕ) (refusal : Refusal) → LexesTo text (Err refusal) ↔ HasOffence text refusal
