-- Which token a text begins with.
use Rattle.std.proofs.Common.{◌≡◌, ℕ, zero, suc, ◌+◌, ◌<◌, ◌≤◌, Bool, true, false, ◌&&◌, cond, if◌then◌else◌, nat_le, refl, sym, ◌∙◌, ap, subst, inl, inr, ◌⊎◌, List, [], ◌∷◌, Some, None, take, length, arith}
use Rattle.std.proofs.lemmas.List.{take_all}
use Rattle.std.proofs.lemmas.Bool.{cases_lt}
use Rattle.std.specs.List.{slice_get, prefix_len}
use Rattle.std.specs.Char.{is_ascii_alphabetic, is_ascii_digit}
use Rattle.std.proofs.lemmas.List.Sums.{prefix_len-le-length}
use Rattle.std.proofs.lemmas.Bool.Decides.{nat_tests}
use Rattle.tap_base.specs.declared.token.TokenKind.{TokenKind}
use Rattle.tap_base.specs.declared.token.TokenKind.TheVariants.{Name, Number, Word, Symbol}
use Rattle.tap_lexer.specs.Bytes.{in_word}
use Rattle.tap_lexer.specs.Words.{words, symbols, is_in}
use Rattle.tap_lexer.specs.Tokens.{AllPass, IsToken, Longest, NoToken}
use Rattle.tap_lexer.specs.inner.Lexing.{word_kind}
use Rattle.tap_lexer.proofs.Tables.{and_left, and_right}
use Rattle.tap_lexer.proofs.Shapes.{no_empty, word_letter, word_goes, symbol_mark, symbol_short, mark_no_letter, mark_no_digit, letter_no_digit}

all_run : (p : ℕ → Bool) (bs : List ℕ) (m : ℕ) → m ≤ length bs → AllPass p (take m bs) → m ≤ prefix_len p bs
all_run p bs zero h a = omega arith
all_run p [] (suc m) h a = h
all_run p (b ∷ bs) (suc m) h a = let i = all_run p bs m (omega arith) a.1 in rw a.0 (omega arith)

run_on : (p : ℕ → Bool) (b : ℕ) (bs : List ℕ) → AllPass p (take (prefix_len p bs) bs) → (v : Bool) → p b ≡ v → AllPass p (take (cond (p b) (1 + prefix_len p bs) 0) (b ∷ bs))
run_on p b bs h true e = let P : Bool → Type 0 = λ v. AllPass p (take (cond v (1 + prefix_len p bs) 0) (b ∷ bs)) in let n : 1 + prefix_len p bs ≡ suc (prefix_len p bs) = omega arith in let Q : ℕ → Type 0 = λ k. AllPass p (take k (b ∷ bs)) in subst P (sym e) (subst Q (sym n) (e, h))
run_on p b bs h false e = let P : Bool → Type 0 = λ v. AllPass p (take (cond v (1 + prefix_len p bs) 0) (b ∷ bs)) in subst P (sym e) tt

run_all : (p : ℕ → Bool) (bs : List ℕ) → AllPass p (take (prefix_len p bs) bs)
run_all p [] = tt
run_all p (b ∷ bs) = run_on p b bs (run_all p bs) (p b) refl

run_first : (p : ℕ → Bool) (b : ℕ) (bs : List ℕ) → p b ≡ true → prefix_len p (b ∷ bs) ≡ suc (prefix_len p bs)
run_first p b bs e = rw e (omega arith)

same_byte : (a b : ℕ) → Some a ≡ Some b → a ≡ b
same_byte a b e = cc

-- ---- names and words

pub letter_in_word : (b : ℕ) → is_ascii_alphabetic b ≡ true → in_word b ≡ true
letter_in_word b e = rw e refl

kind_of : (b : ℕ) (bs : List ℕ) (v : Bool) → is_ascii_alphabetic b ≡ true → AllPass in_word bs → is_in words (b ∷ bs) ≡ v → IsToken (if v then Word else Name) (b ∷ bs)
kind_of b bs true e a h = h
kind_of b bs false e a h = (e, a, h)

word_token : (b : ℕ) (bs : List ℕ) → is_ascii_alphabetic b ≡ true → IsToken (word_kind (take (prefix_len in_word (b ∷ bs)) (b ∷ bs))) (take (prefix_len in_word (b ∷ bs)) (b ∷ bs))
word_token b bs e =
    let P : ℕ → Type 0 = λ n. IsToken (word_kind (take n (b ∷ bs))) (take n (b ∷ bs)) in
    let w = take (prefix_len in_word bs) bs in
    subst P (sym (run_first in_word b bs (letter_in_word b e))) (kind_of b w (is_in words (b ∷ w)) e (run_all in_word bs) refl)

word_greatest : (b : ℕ) (bs : List ℕ) → is_ascii_alphabetic b ≡ true → (k : TokenKind) (m : ℕ) → m ≤ length (b ∷ bs) → IsToken k (take m (b ∷ bs)) → m ≤ prefix_len in_word (b ∷ bs)
word_greatest b bs e k zero h t = omega arith
word_greatest b bs e Name (suc m) h t = let r = all_run in_word bs m (omega arith) t.1 in rw (letter_in_word b e) (omega arith)
word_greatest b bs e Word (suc m) h t = let r = all_run in_word bs m (omega arith) (word_goes b (take m bs) t) in rw (letter_in_word b e) (omega arith)
word_greatest b bs e Number (suc m) h t = absurd (letter_no_digit b e t.0)
word_greatest b bs e Symbol (suc m) h t = absurd (mark_no_letter b (symbol_mark b (take m bs) t) e)

pub word_longest : (text : List ℕ) (b : ℕ) → slice_get text 0 ≡ Some b → is_ascii_alphabetic b ≡ true → Longest (word_kind (take (prefix_len in_word text) text)) (prefix_len in_word text) text
word_longest [] b s e = cc
word_longest (a ∷ bs) b s e = let f : is_ascii_alphabetic a ≡ true = ap is_ascii_alphabetic (same_byte a b s) ∙ e in record { within = prefix_len-le-length in_word (a ∷ bs); token = word_token a bs f; greatest = word_greatest a bs f }

-- ---- numbers

number_token : (b : ℕ) (bs : List ℕ) → is_ascii_digit b ≡ true → IsToken Number (take (prefix_len is_ascii_digit (b ∷ bs)) (b ∷ bs))
number_token b bs e = let P : ℕ → Type 0 = λ n. IsToken Number (take n (b ∷ bs)) in subst P (sym (run_first is_ascii_digit b bs e)) (e, run_all is_ascii_digit bs)

number_greatest : (b : ℕ) (bs : List ℕ) → is_ascii_digit b ≡ true → (k : TokenKind) (m : ℕ) → m ≤ length (b ∷ bs) → IsToken k (take m (b ∷ bs)) → m ≤ prefix_len is_ascii_digit (b ∷ bs)
number_greatest b bs e k zero h t = omega arith
number_greatest b bs e Name (suc m) h t = absurd (letter_no_digit b t.0 e)
number_greatest b bs e Word (suc m) h t = absurd (letter_no_digit b (word_letter b (take m bs) t) e)
number_greatest b bs e Number (suc m) h t = let r = all_run is_ascii_digit bs m (omega arith) t.1 in rw e (omega arith)
number_greatest b bs e Symbol (suc m) h t = absurd (mark_no_digit b (symbol_mark b (take m bs) t) e)

pub number_longest : (text : List ℕ) (b : ℕ) → slice_get text 0 ≡ Some b → is_ascii_digit b ≡ true → Longest Number (prefix_len is_ascii_digit text) text
number_longest [] b s e = cc
number_longest (a ∷ bs) b s e = let f : is_ascii_digit a ≡ true = ap is_ascii_digit (same_byte a b s) ∙ e in record { within = prefix_len-le-length is_ascii_digit (a ∷ bs); token = number_token a bs f; greatest = number_greatest a bs f }

-- ---- symbols

-- whether the first bytes, so many, are a symbol
abbrev pub starts_symbol : List ℕ → ℕ → Bool
starts_symbol text n = nat_le n (length text) && is_in symbols (take n text)

-- what begins with neither a letter nor a digit is a symbol at most, of one byte or two
only_symbols : (b : ℕ) (bs : List ℕ) → is_ascii_alphabetic b ≡ false → is_ascii_digit b ≡ false → (k : TokenKind) (m : ℕ) → IsToken k (take m (b ∷ bs)) → (k ≡ Symbol) × (m ≤ length (b ∷ bs) → m ≤ 2)
only_symbols b bs e f k zero t = absurd (no_empty k t)
only_symbols b bs e f Name (suc m) t = let g = t.0 in absurd cc
only_symbols b bs e f Word (suc m) t = let g = word_letter b (take m bs) t in absurd cc
only_symbols b bs e f Number (suc m) t = let g = t.0 in absurd cc
only_symbols b bs e f Symbol (suc zero) t = (refl, λ h. omega arith)
only_symbols b bs e f Symbol (suc (suc zero)) t = (refl, λ h. omega arith)
only_symbols b [] e f Symbol (suc (suc (suc m))) t = (refl, λ h. omega arith)
only_symbols b (c ∷ []) e f Symbol (suc (suc (suc m))) t = (refl, λ h. omega arith)
only_symbols b (c ∷ d ∷ bs) e f Symbol (suc (suc (suc m))) t = absurd (symbol_short b c d (take m bs) t)

module _ (text : List ℕ) (b : ℕ) (s : slice_get text 0 ≡ Some b) (e : is_ascii_alphabetic b ≡ false) (f : is_ascii_digit b ≡ false) where
  bounded : (k : TokenKind) (m : ℕ) → IsToken k (take m text) → (k ≡ Symbol) × (m ≤ length text → m ≤ 2)
  bounded k m t = go text s t
    where
      go : (w : List ℕ) → slice_get w 0 ≡ Some b → IsToken k (take m w) → (k ≡ Symbol) × (m ≤ length w → m ≤ 2)
      go [] s t = absurd cc
      go (a ∷ bs) s t = only_symbols a bs (ap is_ascii_alphabetic (same_byte a b s) ∙ e) (ap is_ascii_digit (same_byte a b s) ∙ f) k m t

  -- a token there is a symbol
  as_symbol : (k : TokenKind) (m : ℕ) → IsToken k (take m text) → IsToken Symbol (take m text)
  as_symbol k m t = let P : TokenKind → Type 0 = λ x. IsToken x (take m text) in subst P (bounded k m t).0 t

  pub two_longest : starts_symbol text 2 ≡ true → Longest Symbol 2 text
  two_longest h = record {
    within = let g = and_left (nat_le 2 (length text)) _ h in grind (arith, nat_tests);
    token = and_right (nat_le 2 (length text)) _ h;
    greatest = λ k m l t. (bounded k m t).1 l;
  }

  not_two : starts_symbol text 2 ≡ false → (m : ℕ) → m ≤ length text → m ≤ 2 → IsToken Symbol (take m text) → m ≤ 1
  not_two h zero l g t = omega arith
  not_two h (suc zero) l g t = omega arith
  not_two h (suc (suc zero)) l g t = let q : nat_le 2 (length text) ≡ true = grind (arith, nat_tests) in let r : starts_symbol text 2 ≡ true = rw q t in absurd cc
  not_two h (suc (suc (suc m))) l g t = absurd (omega arith)

  pub one_longest : starts_symbol text 2 ≡ false → starts_symbol text 1 ≡ true → Longest Symbol 1 text
  one_longest g h = record {
    within = let q = and_left (nat_le 1 (length text)) _ h in grind (arith, nat_tests);
    token = and_right (nat_le 1 (length text)) _ h;
    greatest = λ k m l t. not_two g m l ((bounded k m t).1 l) (as_symbol k m t);
  }

  none_within : starts_symbol text 2 ≡ false → starts_symbol text 1 ≡ false → (m : ℕ) → m ≤ length text → m ≤ 1 → IsToken Symbol (take m text) → ⊥
  none_within g h zero l i t = no_empty Symbol t
  none_within g h (suc zero) l i t = let q : nat_le 1 (length text) ≡ true = grind (arith, nat_tests) in let r : starts_symbol text 1 ≡ true = rw q t in absurd cc
  none_within g h (suc (suc m)) l i t = absurd (omega arith)

  pub none_there : starts_symbol text 2 ≡ false → starts_symbol text 1 ≡ false → NoToken text
  none_there g h k m t = go (cases_lt m (length text))
    where
      short : (n : ℕ) → n ≤ length text → IsToken k (take n text) → ⊥
      short n l t = let u = as_symbol k n t in none_within g h n l (not_two g n l ((bounded k n t).1 l) u) u

      go : (m < length text) ⊎ (length text ≤ m) → ⊥
      go (inl l) = short m (omega arith) t
      go (inr l) = let P : List ℕ → Type 0 = λ w. IsToken k w in short (length text) (omega arith) (subst P (take_all m text l ∙ sym (take_all (length text) text (omega arith))) t)

pub none_at_end : (text : List ℕ) → slice_get text 0 ≡ None → NoToken text
none_at_end [] s k zero t = no_empty k t
none_at_end [] s k (suc m) t = no_empty k t
none_at_end (x ∷ bs) s k m t = absurd cc
