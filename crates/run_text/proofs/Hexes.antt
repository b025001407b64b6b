-- Bytes that words write in hexadecimal digits.
use Rattle.std.proofs.Common.{◌≡◌, ◌⊎◌, inl, inr, ◌≢◌, ◌<◌, ◌≤◌, ◌+◌, ◌*◌, ◌/◌, ◌%◌, ℕ, zero, suc, List, [], ◌∷◌, ◌++◌, length, refl, ap, sym, subst, ◌∙◌, arith, Result, Ok, Err, Bool, true, codes, false, ◌==◌}
use Rattle.std.specs.Prelude.{flat_map, slice_index}
use Rattle.std.specs.Fmt.{digit_glyph}
use Rattle.tap_base.specs.Lists.{Each}
use Rattle.hex.specs.Hex.{decode_of, encode_lower, encode_with, lower_digits, IsBytes}
use Rattle.hex.proofs.HexLemmas.{decode_of-encode_lower, decode_of-ok, length-encode_with}
use Rattle.run_text.specs.Sized.{AreBytes}
use Rattle.run_text.specs.TraceText.{hex_digits, hex_word}
use Rattle.run_text.specs.Operands.{IsBytesWord, IsDatagramWord}

-- ---- the digits of the crate are those of lines

abbrev DigitIs : ℕ → Type 0
DigitIs d = slice_index lower_digits d ≡ digit_glyph false d

digit_same : (d : ℕ) → d < 16 → DigitIs d
digit_same zero h = refl
digit_same (suc zero) h = refl
digit_same (suc (suc zero)) h = refl
digit_same (suc (suc (suc zero))) h = refl
digit_same (suc (suc (suc (suc zero)))) h = refl
digit_same (suc (suc (suc (suc (suc zero))))) h = refl
digit_same (suc (suc (suc (suc (suc (suc zero)))))) h = refl
digit_same (suc (suc (suc (suc (suc (suc (suc zero))))))) h = refl
digit_same (suc (suc (suc (suc (suc (suc (suc (suc zero)))))))) h = refl
digit_same (suc (suc (suc (suc (suc (suc (suc (suc (suc zero))))))))) h = refl
digit_same (suc (suc (suc (suc (suc (suc (suc (suc (suc (suc zero)))))))))) h = refl
digit_same (suc (suc (suc (suc (suc (suc (suc (suc (suc (suc (suc zero))))))))))) h = refl
digit_same (suc (suc (suc (suc (suc (suc (suc (suc (suc (suc (suc (suc zero)))))))))))) h = refl
digit_same (suc (suc (suc (suc (suc (suc (suc (suc (suc (suc (suc (suc (suc zero))))))))))))) h = refl
digit_same (suc (suc (suc (suc (suc (suc (suc (suc (suc (suc (suc (suc (suc (suc zero)))))))))))))) h = refl
digit_same (suc (suc (suc (suc (suc (suc (suc (suc (suc (suc (suc (suc (suc (suc (suc zero))))))))))))))) h = refl
digit_same (suc (suc (suc (suc (suc (suc (suc (suc (suc (suc (suc (suc (suc (suc (suc (suc n)))))))))))))))) h = absurd (omega (arith, h))

pub digits_same : (bytes : List ℕ) → AreBytes bytes → encode_lower bytes ≡ flat_map hex_digits bytes
unfolding encode_with
digits_same [] h = refl
digits_same (b ∷ bs) h =
    let high = digit_same (b / 16) (omega (arith, h.0)) in
    let low = digit_same (b % 16) (omega arith) in
    let rest = digits_same bs h.1 in rw (high, low, rest) refl

pub word_same : (bytes : List ℕ) → AreBytes bytes → bytes ≢ [] → encode_lower bytes ≡ hex_word bytes
word_same [] h some = absurd (some refl)
word_same (b ∷ bs) h some = digits_same (b ∷ bs) h

each_byte : (bytes : List ℕ) → AreBytes bytes → IsBytes bytes
each_byte [] h i = omega arith
each_byte (b ∷ bs) h zero = h.0
each_byte (b ∷ bs) h (suc i) = each_byte bs h.1 i

-- a word of some bytes, which is not `-`, decodes to them
pub decoded : (word bytes : List ℕ) → (word ≡ 45 ∷ [] → ⊥) → IsBytesWord word bytes → decode_of word ≡ Ok bytes
decoded word [] other w = absurd (other w.1)
decoded word (b ∷ bs) other w =
    let same = digits_same (b ∷ bs) w.0 in
    ap decode_of (w.1 ∙ sym same) ∙ decode_of-encode_lower (b ∷ bs) (each_byte (b ∷ bs) w.0)

pub encoded : (word bytes : List ℕ) → (word ≡ 45 ∷ [] → ⊥) → IsBytesWord word bytes → encode_lower bytes ≡ word
encoded word [] other w = absurd (other w.1)
encoded word (b ∷ bs) other w = digits_same (b ∷ bs) w.0 ∙ sym w.1

-- ---- what `decode` gave

from_bytes : (bytes : List ℕ) → IsBytes bytes → AreBytes bytes
from_bytes [] h = tt
from_bytes (b ∷ bs) h = (h zero, from_bytes bs (λ i. h (suc i)))

filled : (word : List ℕ) (b : Bool) → b ≡ false → b ≡ (length word == 0) → word ≢ []
filled word b f e none = let k : (length word == 0) ≡ true = ap (λ w. length w == 0) none in cc

no_digits : encode_lower [] ≡ []
unfolding encode_with
no_digits = refl

pub read_back : (word bytes : List ℕ) (b : Bool) → b ≡ false → b ≡ (length word == 0) → decode_of word ≡ Ok bytes → encode_lower bytes ≡ word → IsBytesWord word bytes
read_back word [] b f e ok same = absurd (filled word b f e (sym same ∙ no_digits))
read_back word (x ∷ xs) b f e ok same =
    let are = from_bytes (x ∷ xs) (decode_of-ok word (x ∷ xs) ok).3 in
    (are, sym same ∙ digits_same (x ∷ xs) are)

-- a word has twice as many digits as it has bytes, but for `-`
pub length_word : (bytes : List ℕ) → AreBytes bytes → bytes ≢ [] → length (hex_word bytes) ≡ 2 * length bytes
length_word bytes h some = ap length (sym (word_same bytes h some)) ∙ length-encode_with lower_digits bytes

nothing_or : (bytes : List ℕ) → (bytes ≡ []) ⊎ (bytes ≢ [])
nothing_or [] = inl refl
nothing_or (b ∷ bs) = inr (λ e. cc)

pub too_long : (word bytes : List ℕ) → 4096 < length word → IsDatagramWord word bytes → ⊥
too_long word bytes h w = by (nothing_or bytes) where
  same : length word ≡ length (hex_word bytes)
  same = ap length w.1

  by : (bytes ≡ []) ⊎ (bytes ≢ []) → ⊥
  by (inl e) = let one : length (hex_word bytes) ≡ 1 = ap (λ x. length (hex_word x)) e in omega (arith, same, one, h)
  by (inr some) = let twice = length_word bytes w.0.1 some in omega (arith, same, twice, h, w.0.0)

pub datagram : (word bytes : List ℕ) → length word ≤ 4096 → IsBytesWord word bytes → IsDatagramWord word bytes
datagram word bytes h w = ((by (nothing_or bytes), w.0), w.1) where
  same : length word ≡ length (hex_word bytes)
  same = ap length w.1

  by : (bytes ≡ []) ⊎ (bytes ≢ []) → length bytes ≤ 2048
  by (inl e) = let none : length bytes ≡ 0 = ap length e in omega (arith, none)
  by (inr some) = let twice = length_word bytes w.0 some in omega (arith, same, twice, h)
