-- What the bytes of a token look like.
use Rattle.std.proofs.Common.{◌≡◌, ℕ, Bool, true, false, ◌||◌, ◌&&◌, not, refl, List, [], ◌∷◌, arith}
use Rattle.std.specs.Char.{is_ascii_alphabetic, is_ascii_digit}
use Rattle.std.specs.List.{list_all}
use Rattle.std.proofs.lemmas.Bool.Decides.{nat_tests}
use Rattle.tap_base.specs.declared.token.TokenKind.{TokenKind}
use Rattle.tap_base.specs.declared.token.TokenKind.TheVariants.{Name, Number, Word, Symbol}
use Rattle.tap_lexer.specs.Bytes.{is_blank, is_hash, in_word}
use Rattle.tap_lexer.specs.Words.{words, symbols, is_in}
use Rattle.tap_lexer.specs.Tokens.{AllPass, IsToken}
use Rattle.tap_lexer.proofs.Tables.{listed_passes, and_left, and_right}

-- a byte that begins a symbol
abbrev pub is_mark : ℕ → Bool
is_mark b = not (is_ascii_alphabetic b || (is_ascii_digit b || (is_blank b || is_hash b)))

abbrev word_shape : List ℕ → Bool
word_shape [] = false
word_shape (b ∷ bs) = is_ascii_alphabetic b && list_all in_word bs

abbrev symbol_shape : List ℕ → Bool
symbol_shape [] = false
symbol_shape (b ∷ []) = is_mark b
symbol_shape (b ∷ c ∷ []) = is_mark b
symbol_shape (b ∷ c ∷ d ∷ bs) = false

words_shaped : (w : List ℕ) → is_in words w ≡ true → word_shape w ≡ true
words_shaped w e = listed_passes word_shape words w refl e

symbols_shaped : (w : List ℕ) → is_in symbols w ≡ true → symbol_shape w ≡ true
symbols_shaped w e = listed_passes symbol_shape symbols w refl e

pub all_pass : (p : ℕ → Bool) (bs : List ℕ) → list_all p bs ≡ true → AllPass p bs
all_pass p [] e = tt
all_pass p (b ∷ bs) e = (and_left (p b) (list_all p bs) e, all_pass p bs (and_right (p b) (list_all p bs) e))

-- no bytes are no token
pub no_empty : (k : TokenKind) → IsToken k [] → ⊥
no_empty Name t = t
no_empty Number t = t
no_empty Word t = absurd cc
no_empty Symbol t = absurd cc

pub word_letter : (b : ℕ) (bs : List ℕ) → IsToken Word (b ∷ bs) → is_ascii_alphabetic b ≡ true
word_letter b bs t = and_left (is_ascii_alphabetic b) (list_all in_word bs) (words_shaped (b ∷ bs) t)

pub word_goes : (b : ℕ) (bs : List ℕ) → IsToken Word (b ∷ bs) → AllPass in_word bs
word_goes b bs t = all_pass in_word bs (and_right (is_ascii_alphabetic b) (list_all in_word bs) (words_shaped (b ∷ bs) t))

pub symbol_mark : (b : ℕ) (bs : List ℕ) → IsToken Symbol (b ∷ bs) → is_mark b ≡ true
symbol_mark b [] t = symbols_shaped (b ∷ []) t
symbol_mark b (c ∷ []) t = symbols_shaped (b ∷ c ∷ []) t
symbol_mark b (c ∷ d ∷ bs) t = let e = symbols_shaped (b ∷ c ∷ d ∷ bs) t in cc

pub symbol_short : (b c d : ℕ) (bs : List ℕ) → IsToken Symbol (b ∷ c ∷ d ∷ bs) → ⊥
symbol_short b c d bs t = let e = symbols_shaped (b ∷ c ∷ d ∷ bs) t in absurd cc

pub mark_no_letter : (b : ℕ) → is_mark b ≡ true → is_ascii_alphabetic b ≡ true → ⊥
mark_no_letter b e f = go (is_ascii_alphabetic b) (is_ascii_digit b || (is_blank b || is_hash b)) f e
  where
    go : (v w : Bool) → v ≡ true → not (v || w) ≡ true → ⊥
    go true w e f = absurd cc
    go false w e f = absurd cc

pub mark_no_digit : (b : ℕ) → is_mark b ≡ true → is_ascii_digit b ≡ true → ⊥
mark_no_digit b e f = go (is_ascii_alphabetic b) (is_ascii_digit b) (is_blank b || is_hash b) f e
  where
    go : (u v w : Bool) → v ≡ true → not (u || (v || w)) ≡ true → ⊥
    go true true w e f = absurd cc
    go false true w e f = absurd cc
    go u false w e f = absurd cc

pub letter_no_digit : (b : ℕ) → is_ascii_alphabetic b ≡ true → is_ascii_digit b ≡ true → ⊥
letter_no_digit b e f = grind (arith, nat_tests)

-- a byte that is no blank and does not begin a comment
abbrev pub IsOther : ℕ → Type 0
IsOther b = (is_blank b ≡ false) × (is_hash b ≡ false)

mark_other : (b : ℕ) → is_mark b ≡ true → IsOther b
mark_other b e = go (is_ascii_alphabetic b) (is_ascii_digit b) (is_blank b) (is_hash b) e
  where
    go : (a d v w : Bool) → not (a || (d || (v || w))) ≡ true → (v ≡ false) × (w ≡ false)
    go false false false false e = (refl, refl)
    go true d v w e = absurd cc
    go false true v w e = absurd cc
    go false false true w e = absurd cc
    go false false false true e = absurd cc

letter_other : (b : ℕ) → is_ascii_alphabetic b ≡ true → IsOther b
letter_other b e = (grind (arith, nat_tests), grind (arith, nat_tests))

digit_other : (b : ℕ) → is_ascii_digit b ≡ true → IsOther b
digit_other b e = (grind (arith, nat_tests), grind (arith, nat_tests))

-- what a token begins with
pub token_other : (k : TokenKind) (b : ℕ) (bs : List ℕ) → IsToken k (b ∷ bs) → IsOther b
token_other Name b bs t = letter_other b t.0
token_other Number b bs t = digit_other b t.0
token_other Word b bs t = letter_other b (word_letter b bs t)
token_other Symbol b bs t = mark_other b (symbol_mark b bs t)
