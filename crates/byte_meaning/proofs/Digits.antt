-- Binary digits, and the bits of bytes.
use Rattle.std.proofs.Common.{◌≡◌, ℕ, zero, suc, ◌+◌, ◌*◌, ◌/◌, ◌%◌, ◌^◌, ◌-◌, ◌<◌, List, [], ◌∷◌, ◌++◌, length, get_or, take, drop, replicate, refl, ap, sym, ◌∙◌, arith, length-append}
use Rattle.std.specs.Int.Digits.{number_from_digits, number_from_digits_after, AllBelowBase}
use Rattle.std.proofs.lemmas.Nat.{mod-pow-add, shr-shr, pow_pos}
use Rattle.std.proofs.Math.Nat.{pow-suc, mod-eq_of_lt}
use Rattle.std.proofs.lemmas.Nat.Bits.{bit_at-lt, bit_at-zero}
use Rattle.std.proofs.lemmas.List.{get_or_append_left, get_or-append-add}
use Rattle.byte_meaning.specs.Spelling.{digits, grouped}
use Rattle.byte_meaning.specs.Reading.{bits_of}

-- ---- digits of a number

pub length_digits : (w n : ℕ) → length (digits w n) ≡ w
length_digits zero n = refl
length_digits (suc w) n = ap suc (length_digits w n)

one_more : (a b p q r s : ℕ) → q ≡ p * 2 → s ≡ b * p + r → (a * 2 + b) * p + r ≡ a * q + s
one_more a b p q r s e h = grind arith

number_after_digits : (w a n : ℕ) → number_from_digits_after 2 a (digits w n) ≡ a * 2 ^ w + n % 2 ^ w
number_after_digits zero a n = omega arith
number_after_digits (suc w) a n =
    let e : n % 2 ^ suc w ≡ (n / 2 ^ w % 2) * 2 ^ w + n % 2 ^ w = ap (λ k. n % 2 ^ k) (omega arith) ∙ mod-pow-add n 1 w in
    number_after_digits w (a * 2 + n / 2 ^ w % 2) n ∙ one_more a (n / 2 ^ w % 2) (2 ^ w) (2 ^ suc w) (n % 2 ^ w) (n % 2 ^ suc w) (pow-suc 2 w) e

-- the number of the digits of a number that has no more
pub number_of_digits : (w n : ℕ) → n < 2 ^ w → number_from_digits 2 (digits w n) ≡ n
number_of_digits w n h = number_after_digits w 0 n ∙ (let e : n % 2 ^ w ≡ n = mod-eq_of_lt h in omega (arith, e))

high_part : (a : ℕ) (ds : List ℕ) → AllBelowBase 2 ds → number_from_digits_after 2 a ds / 2 ^ length ds ≡ a
high_part a [] h = omega arith
high_part a (d ∷ ds) h =
    let n : ℕ = number_from_digits_after 2 (a * 2 + d) ds in
    let e : n / 2 ^ length ds / 2 ^ 1 ≡ n / 2 ^ (length ds + 1) = shr-shr n (length ds) 1 in
    let r : n / 2 ^ length ds ≡ a * 2 + d = high_part (a * 2 + d) ds h.1 in
    let b : d < 2 = h.0 in
    ap (λ k. n / 2 ^ k) (omega arith) ∙ sym e ∙ ap (λ k. k / 2) r ∙ omega arith

digits_after : (a : ℕ) (ds : List ℕ) → AllBelowBase 2 ds → digits (length ds) (number_from_digits_after 2 a ds) ≡ ds
digits_after a [] h = refl
digits_after a (d ∷ ds) h =
    let n : ℕ = number_from_digits_after 2 (a * 2 + d) ds in
    let b : d < 2 = h.0 in
    let r : n / 2 ^ length ds % 2 ≡ d = ap (λ k. k % 2) (high_part (a * 2 + d) ds h.1) ∙ omega arith in
    ap (λ x. x ∷ digits (length ds) n) r ∙ ap (λ xs. d ∷ xs) (digits_after (a * 2 + d) ds h.1)

-- the digits of the number of digits
pub digits_of_number : (ds : List ℕ) → AllBelowBase 2 ds → digits (length ds) (number_from_digits 2 ds) ≡ ds
digits_of_number ds h = digits_after 0 ds h

pub digit_at : (w n j : ℕ) → j < w → get_or (digits w n) j 0 ≡ n / 2 ^ (w - 1 - j) % 2
digit_at zero n j h = absurd (omega arith)
digit_at (suc w) n zero h = ap (λ k. n / 2 ^ k % 2) (omega arith)
digit_at (suc w) n (suc j) h = digit_at w n j (omega arith) ∙ ap (λ k. n / 2 ^ k % 2) (omega arith)

-- ---- zeros

digits_of_zero : (w : ℕ) → digits w 0 ≡ replicate w 0
digits_of_zero zero = refl
digits_of_zero (suc w) = ap (λ b. b ∷ digits w 0) (bit_at-zero w) ∙ ap (λ ds. 0 ∷ ds) (digits_of_zero w)

pub zeros_by_number : (ds : List ℕ) → AllBelowBase 2 ds → number_from_digits 2 ds ≡ 0 → ds ≡ replicate (length ds) 0
zeros_by_number ds below h = sym (digits_of_number ds below) ∙ ap (digits (length ds)) h ∙ digits_of_zero (length ds)

pub number_of_zeros : (n : ℕ) → number_from_digits 2 (replicate n 0) ≡ 0
number_of_zeros n = ap (number_from_digits 2) (sym (digits_of_zero n)) ∙ number_of_digits n 0 (pow_pos n)

-- ---- below a base

pub below_append : (n : ℕ) (xs ys : List ℕ) → AllBelowBase n xs → AllBelowBase n ys → AllBelowBase n (xs ++ ys)
below_append n [] ys g h = h
below_append n (x ∷ xs) ys g h = (g.0, below_append n xs ys g.1 h)

pub below_digits : (w n : ℕ) → AllBelowBase 2 (digits w n)
below_digits zero n = tt
below_digits (suc w) n = (bit_at-lt n w, below_digits w n)

pub below_zeros : (n : ℕ) → AllBelowBase 2 (replicate n 0)
below_zeros zero = tt
below_zeros (suc n) = (omega arith, below_zeros n)

pub below_drop : (b n : ℕ) (xs : List ℕ) → AllBelowBase b xs → AllBelowBase b (drop n xs)
below_drop b zero xs h = h
below_drop b (suc n) [] h = tt
below_drop b (suc n) (x ∷ xs) h = below_drop b n xs h.1

pub below_take : (b n : ℕ) (xs : List ℕ) → AllBelowBase b xs → AllBelowBase b (take n xs)
below_take b zero xs h = tt
below_take b (suc n) [] h = tt
below_take b (suc n) (x ∷ xs) h = (h.0, below_take b n xs h.1)

-- what is known of a slice of bytes
pub below_bytes : (bs : List ℕ) → ((i : ℕ) → get_or bs i 0 < 256) → AllBelowBase 256 bs
below_bytes [] h = tt
below_bytes (b ∷ bs) h = (h 0, below_bytes bs (λ i. h (suc i)))

-- ---- the bits of bytes

pub length_bits : (bs : List ℕ) → length (bits_of bs) ≡ 8 * length bs
length_bits [] = refl
length_bits (b ∷ bs) = length-append (digits 8 b) (bits_of bs) ∙ (let e = length_digits 8 b in let r = length_bits bs in omega arith)

pub below_bits : (bs : List ℕ) → AllBelowBase 2 (bits_of bs)
below_bits [] = tt
below_bits (b ∷ bs) = below_append 2 (digits 8 b) (bits_of bs) (below_digits 8 b) (below_bits bs)

-- a group of eight digits by its number
grouped_number : (a b c d e f g h : ℕ) → 128 * a + 64 * b + 32 * c + 16 * d + 8 * e + 4 * f + 2 * g + h ≡ number_from_digits 2 (a ∷ b ∷ c ∷ d ∷ e ∷ f ∷ g ∷ h ∷ [])
grouped_number a b c d e f g h = omega arith

pub grouped_bits : (bs : List ℕ) → AllBelowBase 256 bs → grouped (bits_of bs) ≡ bs
grouped_bits [] h = refl
grouped_bits (x ∷ bs) h =
    ap (λ n. n ∷ grouped (bits_of bs)) (grouped_number (x / 2 ^ 7 % 2) (x / 2 ^ 6 % 2) (x / 2 ^ 5 % 2) (x / 2 ^ 4 % 2) (x / 2 ^ 3 % 2) (x / 2 ^ 2 % 2) (x / 2 ^ 1 % 2) (x / 2 ^ 0 % 2) ∙ number_of_digits 8 x h.0)
    ∙ ap (λ xs. x ∷ xs) (grouped_bits bs h.1)

pub bits_of_grouped : (bits : List ℕ) → AllBelowBase 2 bits → length bits % 8 ≡ 0 → bits_of (grouped bits) ≡ bits
bits_of_grouped (a ∷ b ∷ c ∷ d ∷ e ∷ f ∷ g ∷ h ∷ rest) all whole =
    let eight : List ℕ = a ∷ b ∷ c ∷ d ∷ e ∷ f ∷ g ∷ h ∷ [] in
    let first : digits 8 (number_from_digits 2 eight) ≡ eight =
    digits_of_number eight (all.0, (all.1.0, (all.1.1.0, (all.1.1.1.0, (all.1.1.1.1.0, (all.1.1.1.1.1.0, (all.1.1.1.1.1.1.0, (all.1.1.1.1.1.1.1.0, tt)))))))) in
    let more : bits_of (grouped rest) ≡ rest = bits_of_grouped rest all.1.1.1.1.1.1.1.1 (omega arith) in
    ap (λ n. digits 8 n ++ bits_of (grouped rest)) (grouped_number a b c d e f g h) ∙ ap (λ xs. xs ++ bits_of (grouped rest)) first ∙ ap (λ xs. eight ++ xs) more
bits_of_grouped [] all whole = refl
bits_of_grouped (a ∷ []) all whole = absurd (omega arith)
bits_of_grouped (a ∷ b ∷ []) all whole = absurd (omega arith)
bits_of_grouped (a ∷ b ∷ c ∷ []) all whole = absurd (omega arith)
bits_of_grouped (a ∷ b ∷ c ∷ d ∷ []) all whole = absurd (omega arith)
bits_of_grouped (a ∷ b ∷ c ∷ d ∷ e ∷ []) all whole = absurd (omega arith)
bits_of_grouped (a ∷ b ∷ c ∷ d ∷ e ∷ f ∷ []) all whole = absurd (omega arith)
bits_of_grouped (a ∷ b ∷ c ∷ d ∷ e ∷ f ∷ g ∷ []) all whole = absurd (omega arith)

-- bit j of byte k
pub bit_of_byte : (bs : List ℕ) (k j : ℕ) → k < length bs → j < 8 → get_or (bits_of bs) (8 * k + j) 0 ≡ get_or bs k 0 / 2 ^ (7 - j) % 2
bit_of_byte [] k j h g = absurd (omega arith)
bit_of_byte (b ∷ bs) zero j h g =
    let e : length (digits 8 b) ≡ 8 = length_digits 8 b in
    ap (λ i. get_or (digits 8 b ++ bits_of bs) i 0) (omega arith) ∙ get_or_append_left (digits 8 b) (bits_of bs) 0 j (omega arith) ∙ digit_at 8 b j g
bit_of_byte (b ∷ bs) (suc k) j h g =
    let e : length (digits 8 b) ≡ 8 = length_digits 8 b in
    let i : 8 * suc k + j ≡ length (digits 8 b) + (8 * k + j) = omega arith in
    ap (λ i. get_or (digits 8 b ++ bits_of bs) i 0) i ∙ get_or-append-add (digits 8 b) (bits_of bs) (8 * k + j) 0 ∙ bit_of_byte bs k j (omega arith) g
