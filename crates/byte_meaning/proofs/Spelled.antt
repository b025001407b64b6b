-- What is read from a spelling, and when bytes are one.
use Rattle.std.proofs.Common.{◌≡◌, ℕ, zero, suc, ◌+◌, ◌*◌, ◌%◌, ◌^◌, ◌-◌, ◌<◌, ◌≤◌, ℤ, pos, negsuc, List, [], ◌∷◌, ◌++◌, length, take, drop, map, replicate, refl, ap, sym, ◌∙◌, subst, arith, append_assoc, length-append, Option, Some, None}
use Rattle.std.specs.Prelude.{◌≤ℤ◌, ◌-ℤ◌, unsigned_abs}
use Rattle.std.specs.Int.Digits.{number_from_digits, AllBelowBase}
use Rattle.std.proofs.lemmas.List.{take_at, drop_at, length-replicate}
use Rattle.std.proofs.lemmas.List.Sums.{sum_by-cons}
use Rattle.std.proofs.lemmas.Int.{ints}
use Rattle.std.proofs.lemmas.Int.Digits.{number_lt}
use Rattle.std.proofs.Math.Nat.{pow-le-pow_right}
use Rattle.tap_base.specs.declared.wire.WireField.{WireField}
use Rattle.tap_base.specs.Interval.{IsIn, field_range}
use Rattle.tap_base.specs.Ranges.{AreIn}
use Rattle.byte_meaning.specs.Messages.{AreFields}
use Rattle.byte_meaning.specs.Spelling.{all_digits, digits, grouped, padded, spelling}
use Rattle.byte_meaning.specs.Apart.{bit_length, byte_length}
use Rattle.byte_meaning.specs.Reading.{bits_of, value_by, values_by}
use Rattle.byte_meaning.proofs.Digits.{length_digits, number_of_digits, length_bits, below_bits, bits_of_grouped, grouped_bits, below_append, below_digits, below_zeros, below_drop, below_take}

-- ---- the bits of a spelling

pub below_all_digits : (fs : List WireField) (vs : List ℤ) → AllBelowBase 2 (all_digits fs vs)
below_all_digits [] vs = tt
below_all_digits (f ∷ fs) [] = tt
below_all_digits (f ∷ fs) (v ∷ vs) = below_append 2 (digits f.width (unsigned_abs v)) (all_digits fs vs) (below_digits f.width (unsigned_abs v)) (below_all_digits fs vs)

pub length_of_more : (f : WireField) (fs : List WireField) → bit_length (f ∷ fs) ≡ f.width + bit_length fs
length_of_more f fs = sum_by-cons (λ g. g.width) f fs

pub length_all_digits : (fs : List WireField) (vs : List ℤ) → length vs ≡ length fs → length (all_digits fs vs) ≡ bit_length fs
length_all_digits [] vs h = refl
length_all_digits (f ∷ fs) [] h = absurd (omega arith)
length_all_digits (f ∷ fs) (v ∷ vs) h =
    length-append (digits f.width (unsigned_abs v)) (all_digits fs vs)
    ∙ (let e = length_digits f.width (unsigned_abs v) in let r = length_all_digits fs vs (omega arith) in let s : bit_length (f ∷ fs) ≡ f.width + bit_length fs = length_of_more f fs in omega arith)

-- how many zeros stand behind so many bits
abbrev pub zeros_behind : ℕ → ℕ
zeros_behind n = (8 - n % 8) % 8

whole_with_zeros : (n : ℕ) → (n + (8 - n % 8) % 8) % 8 ≡ 0
whole_with_zeros n = omega arith

length_padded : (bits : List ℕ) → length (padded bits) ≡ length bits + zeros_behind (length bits)
length_padded bits = length-append bits (replicate (zeros_behind (length bits)) 0) ∙ ap (λ n. length bits + n) (length-replicate (zeros_behind (length bits)) 0)

pub bits_of_spelling : (fs : List WireField) (vs : List ℤ) → bits_of (spelling fs vs) ≡ padded (all_digits fs vs)
bits_of_spelling fs vs =
    let bits : List ℕ = all_digits fs vs in
    bits_of_grouped (padded bits) (below_append 2 bits (replicate (zeros_behind (length bits)) 0) (below_all_digits fs vs) (below_zeros (zeros_behind (length bits))))
    (ap (λ n. n % 8) (length_padded bits) ∙ whole_with_zeros (length bits))

-- bytes whose bits are a spelling's are the spelling
pub spelling_by_bits : (fs : List WireField) (vs : List ℤ) (bytes : List ℕ) → AllBelowBase 256 bytes → bits_of bytes ≡ padded (all_digits fs vs) → spelling fs vs ≡ bytes
spelling_by_bits fs vs bytes h e = ap grouped (sym e) ∙ grouped_bits bytes h

pub length_spelling : (fs : List WireField) (vs : List ℤ) → length vs ≡ length fs → length (spelling fs vs) ≡ byte_length fs
length_spelling fs vs h =
    let a : length (bits_of (spelling fs vs)) ≡ 8 * length (spelling fs vs) = length_bits (spelling fs vs) in
    let b : length (bits_of (spelling fs vs)) ≡ length (padded (all_digits fs vs)) = ap length (bits_of_spelling fs vs) in
    let c = length_padded (all_digits fs vs) in
    let d = length_all_digits fs vs h in
    let e : 8 * length (spelling fs vs) ≡ bit_length fs + (8 - bit_length fs % 8) % 8 = sym a ∙ b ∙ c ∙ ap (λ n. n + zeros_behind n) d in
    omega arith

-- ---- values that are read

-- a value within the range of a field has so many digits, and is their number
pub number_in_range : (w : ℕ) (v : ℤ) → pos 0 ≤ℤ v → v ≤ℤ (pos (2 ^ w) -ℤ pos 1) → (unsigned_abs v < 2 ^ w) × (pos (unsigned_abs v) ≡ v)
number_in_range w (pos n) g h = (grind arith, refl)
number_in_range w (negsuc n) g h = absurd (grind arith)

read_value : (f : WireField) (v : ℤ) → IsIn v (field_range f) → value_by f.fixed (digits f.width (unsigned_abs v)) ≡ v
read_value f v h = by_fixed f.fixed refl where
  by_fixed : (o : Option ℤ) → f.fixed ≡ o → value_by o (digits f.width (unsigned_abs v)) ≡ v
  by_fixed None e =
      let P : Option ℤ → Type 0 = λ o. IsIn v (field_range (record { width = f.width; fixed = o })) in
      let within : P None = subst P e h in
      let number = number_in_range f.width v within.0 within.1 in
      ap pos (number_of_digits f.width (unsigned_abs v) number.0) ∙ number.1
  by_fixed (Some c) e =
      let P : Option ℤ → Type 0 = λ o. IsIn v (field_range (record { width = f.width; fixed = o })) in
      let within : P (Some c) = subst P e h in
      let low : c ≤ℤ v = within.0 in
      let high : v ≤ℤ c = within.1 in
      grind arith

-- the values of fields are read from their digits, whatever stands behind
pub read_values : (fs : List WireField) (vs : List ℤ) (rest : List ℕ) → length vs ≡ length fs → AreIn (map field_range fs) vs → values_by fs (all_digits fs vs ++ rest) ≡ vs
read_values [] [] rest c h = refl
read_values [] (v ∷ vs) rest c h = absurd (omega arith)
read_values (f ∷ fs) [] rest c h = absurd (omega arith)
read_values (f ∷ fs) (v ∷ vs) rest c h =
    let own : List ℕ = digits f.width (unsigned_abs v) in
    let more : List ℕ = all_digits fs vs ++ rest in
    let cut : own ++ all_digits fs vs ++ rest ≡ own ++ more = append_assoc own (all_digits fs vs) rest in
    let front : take f.width (own ++ more) ≡ own = take_at own more f.width (length_digits f.width (unsigned_abs v)) in
    let back : drop f.width (own ++ more) ≡ more = drop_at own more f.width (length_digits f.width (unsigned_abs v)) in
    ap (values_by (f ∷ fs)) cut
    ∙ ap (λ bits. value_by f.fixed bits ∷ values_by fs (drop f.width (own ++ more))) front
    ∙ ap (λ bits. value_by f.fixed own ∷ values_by fs bits) back
    ∙ ap (λ x. x ∷ values_by fs more) (read_value f v h.0)
    ∙ ap (λ xs. v ∷ xs) (read_values fs vs rest (omega arith) h.1)

length_ranges : (fs : List WireField) → length (map field_range fs) ≡ length fs
length_ranges [] = refl
length_ranges (f ∷ fs) = ap suc (length_ranges fs)

pub counted_as : (fs : List WireField) (vs : List ℤ) → AreFields fs vs → length vs ≡ length fs
counted_as fs vs h = h.counted ∙ length_ranges fs

pub read_spelling : (fs : List WireField) (vs : List ℤ) → AreFields fs vs → values_by fs (bits_of (spelling fs vs)) ≡ vs
read_spelling fs vs h =
    ap (values_by fs) (bits_of_spelling fs vs) ∙ read_values fs vs (replicate (zeros_behind (length (all_digits fs vs))) 0) (counted_as fs vs h) h.within

-- one spelling is that of one list of values
pub same_values : (fs : List WireField) (vs ws : List ℤ) → AreFields fs vs → AreFields fs ws → spelling fs vs ≡ spelling fs ws → vs ≡ ws
same_values fs vs ws g h e = sym (read_spelling fs vs g) ∙ ap (λ bytes. values_by fs (bits_of bytes)) e ∙ read_spelling fs ws h

-- ---- what is read fits

small_number : (w : ℕ) (bits : List ℕ) → AllBelowBase 2 bits → number_from_digits 2 (take w bits) < 2 ^ w
small_number w bits below =
    let a = number_lt 2 (take w bits) (below_take 2 w bits below) in
    let l : length (take w bits) ≤ w = length_front w bits in
    let b : 2 ^ length (take w bits) ≤ 2 ^ w = pow-le-pow_right (omega arith) l in
    omega arith where
      length_front : (k : ℕ) (xs : List ℕ) → length (take k xs) ≤ k
      length_front zero xs = omega arith
      length_front (suc k) [] = omega arith
      length_front (suc k) (x ∷ xs) = let h = length_front k xs in omega arith

int_refl : (x : ℤ) → x ≤ℤ x
int_refl x = grind arith

read_fits : (w : ℕ) (fixed : Option ℤ) (bits : List ℕ) → AllBelowBase 2 bits → IsIn (value_by fixed (take w bits)) (field_range (record { width = w; fixed = fixed }))
read_fits w (Some c) bits below = (int_refl c, int_refl c)
read_fits w None bits below = let h = small_number w bits below in (grind arith, grind (arith, ints))

pub counted_by : (fs : List WireField) (bits : List ℕ) → length (values_by fs bits) ≡ length fs
counted_by [] bits = refl
counted_by (f ∷ fs) bits = ap suc (counted_by fs (drop f.width bits))

within_by : (fs : List WireField) (bits : List ℕ) → AllBelowBase 2 bits → AreIn (map field_range fs) (values_by fs bits)
within_by [] bits below = tt
within_by (f ∷ fs) bits below = (read_fits f.width f.fixed bits below, within_by fs (drop f.width bits) (below_drop 2 f.width bits below))

pub fields_by : (fs : List WireField) (bytes : List ℕ) → AreFields fs (values_by fs (bits_of bytes))
fields_by fs bytes = record { counted = counted_by fs (bits_of bytes) ∙ sym (length_ranges fs); within = within_by fs (bits_of bytes) (below_bits bytes) }
