-- The texts of tokens are words.
use Rattle.std.proofs.Common.{◌≡◌, ◌≢◌, ℕ, suc, Bool, true, false, List, [], ◌∷◌, refl, ap, sym, subst, ◌∙◌, slice_range, Some, is_some, if◌then◌else◌}
use Rattle.std.specs.Char.{is_ascii_alphabetic, is_ascii_digit}
use Rattle.std.specs.Str.{bytes_eq}
use Rattle.std.proofs.lemmas.Slice.Eq.{bytes_eq-Decides}
use Rattle.tap_base.specs.declared.token.Token.{Token}
use Rattle.tap_base.specs.declared.token.TokenKind.{TokenKind}
use Rattle.tap_base.specs.declared.token.TokenKind.TheVariants.{Name, Number, Word, Symbol}
use Rattle.tap_base.specs.LineWords.{IsWord}
use Rattle.tap_base.specs.Lists.{Each}
use Rattle.tap_base.proofs.WordFacts.{is_free, free_word}
use Rattle.tap_lexer.specs.Bytes.{in_word}
use Rattle.tap_lexer.specs.Lexeme.{Lexeme, lexemes}
use Rattle.tap_lexer.specs.Spans.{AreTexts}
use Rattle.tap_lexer.specs.Tokens.{AllPass, IsToken, SpellsTokens}
use Rattle.tap_lexer.specs.Words.{Table, is_in, sign_in, symbols, words}
use Rattle.tap_lexer.proofs.Spans.{spelled_texts}

differs : (test : ℕ → Bool) (b c : ℕ) → test b ≡ true → test c ≡ false → b ≢ c
differs test b c h k same = let e : true ≡ false = sym h ∙ ap test same ∙ k in cc

passing : (test : ℕ → Bool) (bs : List ℕ) → test 32 ≡ false → test 10 ≡ false → AllPass test bs → IsWord bs
passing test [] s l h = tt
passing test (b ∷ bs) s l h = ((differs test b 32 h.0 s, differs test b 10 h.0 l), passing test bs s l h.1)

all_free : Table → Bool
all_free [] = true
all_free (x ∷ xs) = if is_free x.0 then all_free xs else false

free_table : (a b : Bool) → (if a then b else false) ≡ true → (a ≡ true) × (b ≡ true)
free_table true b h = (refl, h)
free_table false b h = cc

listed_word : (t : Table) (w : List ℕ) → all_free t ≡ true → is_in t w ≡ true → IsWord w
unfolding all_free
listed_word [] w h k = cc
listed_word ((x, s) ∷ t) w h k = by (bytes_eq w x) refl (free_table (is_free x) (all_free t) h) k (λ f r. listed_word t w f r) where
  by : (b : Bool) → bytes_eq w x ≡ b → (is_free x ≡ true) × (all_free t ≡ true) → is_some (if b then Some s else sign_in t w) ≡ true → (all_free t ≡ true → is_in t w ≡ true → IsWord w) → IsWord w
  by true e f k rest = subst IsWord (sym ((bytes_eq-Decides w x).0 e)) (free_word x f.0)
  by false e f k rest = rest f.1 k

token_word : (kind : TokenKind) (w : List ℕ) → IsToken kind w → IsWord w
unfolding all_free
token_word Name [] h = absurd h
token_word Name (b ∷ bs) h = ((differs is_ascii_alphabetic b 32 h.0 refl, differs is_ascii_alphabetic b 10 h.0 refl), passing in_word bs refl refl h.1)
token_word Number [] h = absurd h
token_word Number (b ∷ bs) h = ((differs is_ascii_digit b 32 h.0 refl, differs is_ascii_digit b 10 h.0 refl), passing is_ascii_digit bs refl refl h.1)
token_word Word w h = listed_word words w refl h
token_word Symbol w h = listed_word symbols w refl h

-- the text of a lexeme is a word
abbrev pub HasWord : Lexeme → Type 0
HasWord x = IsWord x.text

all_words : (text : List ℕ) (ts : List Token) → AreTexts text ts → Each HasWord (lexemes text ts)
all_words text [] h = tt
all_words text (t ∷ ts) h = (token_word t.kind (slice_range text t.start t.end) (h 0 t refl).token, all_words text ts (λ k u e. h (suc k) u e))

pub token_words : (text : List ℕ) (ts : List Token) → SpellsTokens text ts → Each HasWord (lexemes text ts)
token_words text ts h = all_words text ts (spelled_texts text _ ts h)
