-- Where the tokens of a text stand in it.
use Rattle.std.proofs.Common.{◌≡◌, ℕ, zero, suc, ◌+◌, ◌-◌, ◌<◌, ◌≤◌, Bool, true, nat_lt, refl, sym, ◌∙◌, ap, subst, List, [], ◌∷◌, Some, Ok, Err, take, drop, length, ℤ, arith}
use Rattle.std.specs.List.{slice_range, list_all}
use Rattle.std.specs.Str.{IsAscii}
use Rattle.std.specs.Char.{is_ascii_alphabetic, is_ascii_digit}
use Rattle.std.proofs.lemmas.List.{drop-drop, length-drop}
use Rattle.std.proofs.lemmas.Str.Ascii.{IsAscii-nil}
use Rattle.std.proofs.lemmas.Bool.Decides.{nat_tests}
use Rattle.tap_base.specs.declared.place.Place.{Place}
use Rattle.tap_base.specs.declared.token.TokenKind.{TokenKind}
use Rattle.tap_base.specs.declared.token.TokenKind.TheVariants.{Name, Number, Word, Symbol}
use Rattle.tap_base.specs.declared.token.Token.{Token}
use Rattle.tap_base.proofs.ListFacts.{behind_first}
use Rattle.tap_lexer.specs.Bytes.{in_word}
use Rattle.tap_lexer.specs.Words.{words, symbols}
use Rattle.tap_lexer.specs.Tokens.{Lexes, Comments, Outcome, end, blank, hash, token, large, odd, over, line, inside, foreign, before, AllPass, Longest, IsToken, value}
use Rattle.tap_lexer.specs.Spans.{IsText, AreTexts, InOrder}
use Rattle.tap_lexer.proofs.Tables.{listed_passes, and_left, and_right}

-- ---- a token's bytes are ASCII

ascii_more : (b : ℕ) (bs : List ℕ) → b < 128 → IsAscii bs → IsAscii (b ∷ bs)
ascii_more b bs h a zero = h
ascii_more b bs h a (suc i) = a i

ascii_all : (p : ℕ → Bool) (bs : List ℕ) → ((b : ℕ) → p b ≡ true → b < 128) → AllPass p bs → IsAscii bs
ascii_all p [] h a = IsAscii-nil
ascii_all p (b ∷ bs) h a = ascii_more b bs (h b a.0) (ascii_all p bs h a.1)

abbrev low : ℕ → Bool
low b = nat_lt b 128

low_ascii : (bs : List ℕ) → list_all low bs ≡ true → IsAscii bs
low_ascii [] e = IsAscii-nil
low_ascii (b ∷ bs) e = ascii_more b bs (let f = and_left (low b) (list_all low bs) e in grind (arith, nat_tests)) (low_ascii bs (and_right (low b) (list_all low bs) e))

word_low : (b : ℕ) → in_word b ≡ true → b < 128
word_low b e = grind (arith, nat_tests)

digit_low : (b : ℕ) → is_ascii_digit b ≡ true → b < 128
digit_low b e = grind (arith, nat_tests)

letter_low : (b : ℕ) → is_ascii_alphabetic b ≡ true → b < 128
letter_low b e = grind (arith, nat_tests)

token_ascii : (k : TokenKind) (w : List ℕ) → IsToken k w → IsAscii w
token_ascii k [] t = IsAscii-nil
token_ascii Name (b ∷ bs) t = ascii_more b bs (letter_low b t.0) (ascii_all in_word bs word_low t.1)
token_ascii Number (b ∷ bs) t = ascii_more b bs (digit_low b t.0) (ascii_all is_ascii_digit bs digit_low t.1)
token_ascii Word (b ∷ bs) t = low_ascii (b ∷ bs) (listed_passes (list_all low) words (b ∷ bs) refl t)
token_ascii Symbol (b ∷ bs) t = low_ascii (b ∷ bs) (listed_passes (list_all low) symbols (b ∷ bs) refl t)

-- ---- the tokens of an outcome

abbrev Texts : List ℕ → List Token → Type 0
Texts text [] = Unit {0}
Texts text (t ∷ ts) = IsText text t × Texts text ts

pub are_texts : (text : List ℕ) (ts : List Token) → Texts text ts → AreTexts text ts
are_texts text [] h k t e = absurd cc
are_texts text (u ∷ ts) h zero t e = let q : u ≡ t = cc in subst (IsText text) q h.0
are_texts text (u ∷ ts) h (suc k) t e = are_texts text ts h.1 k t e

abbrev Stand : List ℕ → ℕ → Outcome → Type 0
Stand text at (Ok ts) = Texts text ts × InOrder at ts
Stand text at (Err e) = Unit {0}

earlier : (at n : ℕ) (ts : List Token) → InOrder (at + n) ts → InOrder at ts
earlier at n [] h = tt
earlier at n (t ∷ ts) h = (let l = h.0 in omega arith, h.1)

sooner : (text : List ℕ) (at n : ℕ) (r : Outcome) → Stand text (at + n) r → Stand text at r
sooner text at n (Ok ts) h = (h.0, earlier at n ts h.1)
sooner text at n (Err e) h = tt

room : (text : List ℕ) (at n b : ℕ) (bs : List ℕ) → drop at text ≡ b ∷ bs → n ≤ length (b ∷ bs) → at + n ≤ length text
room text at n b bs e h = let l : length (drop at text) ≡ length (b ∷ bs) = ap length e in let d = length-drop at text in omega arith

part : (text : List ℕ) (at n b : ℕ) (bs : List ℕ) → drop at text ≡ b ∷ bs → slice_range text at (at + n) ≡ take n (b ∷ bs)
part text at n b bs e = let m : at + n - at ≡ n = omega arith in ap (λ k. take k (drop at text)) m ∙ ap (take n) e

found : (text : List ℕ) (at n b : ℕ) (bs : List ℕ) (p : Place) (k : TokenKind) (v : ℤ) → drop at text ≡ b ∷ bs → Longest k n (b ∷ bs) → value k (take n (b ∷ bs)) ≡ Some v → IsText text (record { kind = k; start = at; end = at + n; value = v; place = p })
found text at n b bs p k v e g x =
    let q = sym (part text at n b bs e) in
    record {
      ordered = omega arith;
      within = room text at n b bs e g.within;
      ascii = subst IsAscii q (token_ascii k (take n (b ∷ bs)) g.token);
      token = subst (IsToken k) q g.token;
      valued = ap (value k) (sym q) ∙ x;
    }

put : (text : List ℕ) (at n : ℕ) (p : Place) (k : TokenKind) (v : ℤ) (r : Outcome) → IsText text (record { kind = k; start = at; end = at + n; value = v; place = p }) → Stand text (at + n) r → Stand text at (before (record { kind = k; start = at; end = at + n; value = v; place = p } ∷ []) r)
put text at n p k v (Ok ts) i h = ((i, h.0), (omega arith, h.1))
put text at n p k v (Err e) i h = tt

mutual
  stand : {at : ℕ} {p : Place} {w : List ℕ} {r : Outcome} → (text : List ℕ) → drop at text ≡ w → Lexes at p w r → Stand text at r
  stand text e end = (tt, tt)
  stand text e (blank {at} {b} {bs} {r} f l) = sooner text at 1 r (stand text (behind_first text at b bs e) l)
  stand text e (hash {at} {b} {bs} {r} f l) = sooner text at 1 r (stand_comment text (behind_first text at b bs e) l)
  stand text e (token {at} {n} {p} {b} {bs} {k} {v} {r} g x l) = put text at n p k v r (found text at n b bs p k v e g x) (stand text (sym (drop-drop n at text) ∙ ap (drop n) e) l)
  stand text e (large g x) = tt
  stand text e (odd f h g) = tt

  stand_comment : {at : ℕ} {p : Place} {w : List ℕ} {r : Outcome} → (text : List ℕ) → drop at text ≡ w → Comments at p w r → Stand text at r
  stand_comment text e over = (tt, tt)
  stand_comment text e (line f l) = stand text e l
  stand_comment text e (inside {at} {b} {bs} {r} f l) = sooner text at 1 r (stand_comment text (behind_first text at b bs e) l)
  stand_comment text e (foreign f) = tt

-- what a text spells stands in it
pub spelled_texts : (text : List ℕ) (p : Place) (ts : List Token) → Lexes 0 p text (Ok ts) → AreTexts text ts
spelled_texts text p ts l = are_texts text ts (stand text refl l).0

pub spelled_order : (text : List ℕ) (p : Place) (ts : List Token) → Lexes 0 p text (Ok ts) → InOrder 0 ts
spelled_order text p ts l = (stand text refl l).1
