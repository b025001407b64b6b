-- When bytes are a spelling of fields, by their length, the fixed fields and the padding.
use Rattle.std.proofs.Common.{◌≡◌, ◌≢◌, ℕ, ◌+◌, ◌*◌, ◌^◌, ◌<◌, ◌≤◌, ℤ, pos, negsuc, List, [], ◌∷◌, ◌++◌, length, take, drop, map, replicate, refl, ap, sym, ◌∙◌, arith, append_assoc, Bool, true, false, ◌&&◌, Option, Some, None}
use Rattle.std.specs.Prelude.{◌≤ℤ◌, ◌<ℤ◌, unsigned_abs, IfSome}
use Rattle.std.specs.Str.{bytes_eq}
use Rattle.std.specs.Int.Digits.{number_from_digits, AllBelowBase}
use Rattle.std.proofs.lemmas.Bool.Decides.{Decides-int_eq}
use Rattle.std.proofs.lemmas.List.{take_at, drop_at, length-take-le, length-drop, take-append-drop}
use Rattle.std.proofs.lemmas.Slice.Eq.{bytes_eq-Decides}
use Rattle.std.proofs.Math.Seq.{take-add}
use Rattle.tap_base.specs.declared.wire.WireField.{WireField}
use Rattle.tap_base.specs.Lists.{Each}
use Rattle.tap_base.specs.Interval.{IsIn, field_range}
use Rattle.tap_base.specs.Option.{provided}
use Rattle.tap_base.specs.Ranges.{AreIn}
use Rattle.byte_meaning.specs.Spelling.{all_digits, digits, padded, spelling}
use Rattle.byte_meaning.specs.Apart.{bit_length, byte_length}
use Rattle.byte_meaning.specs.Reading.{bits_of, value_by, values_by, values_spelled}
use Rattle.byte_meaning.specs.inner.Held.{is_held}
use Rattle.byte_meaning.proofs.Digits.{length_digits, number_of_digits, digits_of_number, length_bits, below_bits, below_drop, below_take, zeros_by_number, number_of_zeros}
use Rattle.byte_meaning.proofs.Spelled.{bits_of_spelling, counted_by, fields_by, length_all_digits, length_of_more, length_spelling, spelling_by_bits, zeros_behind}

-- each fixed field has its value
abbrev pub fixed_in : List WireField → List ℕ → Bool
fixed_in [] bits = true
fixed_in (f ∷ fs) bits = is_held f.fixed (number_from_digits 2 (take f.width bits)) && fixed_in fs (drop f.width bits)

both_true : (a b : Bool) → (a && b) ≡ true → (a ≡ true) × (b ≡ true)
both_true true b h = (refl, h)
both_true false b h = absurd (cc)

-- a field has room for its fixed value
abbrev pub HasRoom : WireField → Type 0
HasRoom f = IfSome f.fixed (λ v. (pos 0 ≤ℤ v) × (v <ℤ pos (2 ^ f.width)))

-- ---- bytes that pass are a spelling

-- the digits of a value that was read are the bits
digits_free : (w : ℕ) (bits : List ℕ) → AllBelowBase 2 bits → w ≤ length bits → digits w (number_from_digits 2 (take w bits)) ≡ take w bits
digits_free w bits below room =
    let len : length (take w bits) ≡ w = length-take-le w bits room in
    ap (λ k. digits k (number_from_digits 2 (take w bits))) (sym len) ∙ digits_of_number (take w bits) (below_take 2 w bits below)

digits_held : (w : ℕ) (fixed : Option ℤ) (bits : List ℕ) → AllBelowBase 2 bits → w ≤ length bits → is_held fixed (number_from_digits 2 (take w bits)) ≡ true
    → digits w (unsigned_abs (value_by fixed (take w bits))) ≡ take w bits
digits_held w None bits below room h = digits_free w bits below room
digits_held w (Some v) bits below room h =
    let same : pos (number_from_digits 2 (take w bits)) ≡ v = (Decides-int_eq (pos (number_from_digits 2 (take w bits))) v).0 h in
    ap (λ x. digits w (unsigned_abs x)) (sym same) ∙ digits_free w bits below room

digits_read : (fs : List WireField) (bits : List ℕ) → AllBelowBase 2 bits → bit_length fs ≤ length bits → fixed_in fs bits ≡ true → all_digits fs (values_by fs bits) ≡ take (bit_length fs) bits
digits_read [] bits below room h = refl
digits_read (f ∷ fs) bits below room h =
    let more : bit_length (f ∷ fs) ≡ f.width + bit_length fs = length_of_more f fs in
    let both = both_true (is_held f.fixed (number_from_digits 2 (take f.width bits))) (fixed_in fs (drop f.width bits)) h in
    let rest : bit_length fs ≤ length (drop f.width bits) = let e = length-drop f.width bits in omega arith in
    ap (λ xs. xs ++ all_digits fs (values_by fs (drop f.width bits))) (digits_held f.width f.fixed bits below (omega arith) both.0)
    ∙ ap (λ xs. take f.width bits ++ xs) (digits_read fs (drop f.width bits) (below_drop 2 f.width bits below) rest both.1)
    ∙ sym (take-add f.width (bit_length fs) bits)
    ∙ ap (λ n. take n bits) (sym more)

pub spelling_read : (fs : List WireField) (bytes : List ℕ) → AllBelowBase 256 bytes → length bytes ≡ byte_length fs → fixed_in fs (bits_of bytes) ≡ true
    → number_from_digits 2 (drop (bit_length fs) (bits_of bytes)) ≡ 0 → spelling fs (values_by fs (bits_of bytes)) ≡ bytes
spelling_read fs bytes bound len held zero_rest =
    let bits : List ℕ = bits_of bytes in
    let n : ℕ = bit_length fs in
    let all : length bits ≡ 8 * length bytes = length_bits bytes in
    let room : n ≤ length bits = omega arith in
    let below : AllBelowBase 2 bits = below_bits bytes in
    let front : all_digits fs (values_by fs bits) ≡ take n bits = digits_read fs bits below room held in
    let front_length : length (all_digits fs (values_by fs bits)) ≡ n = length_all_digits fs (values_by fs bits) (counted_by fs bits) in
    let rest_length : length (drop n bits) ≡ zeros_behind n = let e = length-drop n bits in omega arith in
    let rest : drop n bits ≡ replicate (zeros_behind n) 0 = zeros_by_number (drop n bits) (below_drop 2 n bits below) zero_rest ∙ ap (λ k. replicate k 0) rest_length in
    let joined : bits ≡ padded (all_digits fs (values_by fs bits)) =
    sym (take-append-drop n bits) ∙ ap (λ xs. take n bits ++ xs) rest
    ∙ ap (λ xs. xs ++ replicate (zeros_behind n) 0) (sym front)
    ∙ ap (λ k. all_digits fs (values_by fs bits) ++ replicate (zeros_behind k) 0) (sym front_length) in
    spelling_by_bits fs (values_by fs bits) bytes bound joined

-- ---- a spelling passes

held_itself : (w : ℕ) (fixed : Option ℤ) (v : ℤ) → IfSome fixed (λ x. (pos 0 ≤ℤ x) × (x <ℤ pos (2 ^ w))) → IsIn v (field_range (record { width = w; fixed = fixed }))
    → is_held fixed (number_from_digits 2 (digits w (unsigned_abs v))) ≡ true
held_itself w None v room h = refl
held_itself w (Some c) (pos n) room h =
    let high : c <ℤ pos (2 ^ w) = room.1 in
    let same : c ≡ pos n = let l : c ≤ℤ pos n = h.0 in let g : pos n ≤ℤ c = h.1 in grind arith in
    let small : n < 2 ^ w = grind arith in
    let number : number_from_digits 2 (digits w n) ≡ n = number_of_digits w n small in
    (Decides-int_eq (pos (number_from_digits 2 (digits w n))) c).1 (ap pos number ∙ sym same)
held_itself w (Some c) (negsuc n) room h = absurd (let low : pos 0 ≤ℤ c = room.0 in let g : c ≤ℤ negsuc n = h.0 in grind arith)

both : (a b : Bool) → a ≡ true → b ≡ true → (a && b) ≡ true
both a b g h = cc

held_in_spelling : (fs : List WireField) (vs : List ℤ) (rest : List ℕ) → Each HasRoom fs → length vs ≡ length fs → AreIn (map field_range fs) vs → fixed_in fs (all_digits fs vs ++ rest) ≡ true
held_in_spelling [] [] rest room c h = refl
held_in_spelling [] (v ∷ vs) rest room c h = absurd (omega arith)
held_in_spelling (f ∷ fs) [] rest room c h = absurd (omega arith)
held_in_spelling (f ∷ fs) (v ∷ vs) rest room c h =
    let own : List ℕ = digits f.width (unsigned_abs v) in
    let more : List ℕ = all_digits fs vs ++ rest in
    let cut : own ++ all_digits fs vs ++ rest ≡ own ++ more = append_assoc own (all_digits fs vs) rest in
    let front : take f.width (own ++ more) ≡ own = take_at own more f.width (length_digits f.width (unsigned_abs v)) in
    let back : drop f.width (own ++ more) ≡ more = drop_at own more f.width (length_digits f.width (unsigned_abs v)) in
    ap (fixed_in (f ∷ fs)) cut
    ∙ both (is_held f.fixed (number_from_digits 2 (take f.width (own ++ more)))) (fixed_in fs (drop f.width (own ++ more)))
    (ap (λ bits. is_held f.fixed (number_from_digits 2 bits)) front ∙ held_itself f.width f.fixed v room.0 h.0)
    (ap (fixed_in fs) back ∙ held_in_spelling fs vs rest room.1 (omega arith) h.1)

-- ---- what is answered

unspelled : (fs : List WireField) (bytes : List ℕ) → (spelling fs (values_by fs (bits_of bytes)) ≡ bytes → ⊥) → values_spelled fs bytes ≡ None
unspelled fs bytes other = by_test (bytes_eq (spelling fs (values_by fs (bits_of bytes))) bytes) refl where
  by_test : (b : Bool) → bytes_eq (spelling fs (values_by fs (bits_of bytes))) bytes ≡ b → provided b (values_by fs (bits_of bytes)) ≡ None
  by_test true same = absurd (other ((bytes_eq-Decides (spelling fs (values_by fs (bits_of bytes))) bytes).0 same))
  by_test false same = refl

pub of_other_length : (fs : List WireField) (bytes : List ℕ) → length bytes ≢ byte_length fs → values_spelled fs bytes ≡ None
of_other_length fs bytes other = unspelled fs bytes (λ e. other (sym (ap length e) ∙ length_spelling fs (values_by fs (bits_of bytes)) (counted_by fs (bits_of bytes))))

-- the bits of bytes that are a spelling
spelled_bits : (fs : List WireField) (bytes : List ℕ) → spelling fs (values_by fs (bits_of bytes)) ≡ bytes
    → bits_of bytes ≡ all_digits fs (values_by fs (bits_of bytes)) ++ replicate (zeros_behind (length (all_digits fs (values_by fs (bits_of bytes))))) 0
spelled_bits fs bytes e = ap bits_of (sym e) ∙ bits_of_spelling fs (values_by fs (bits_of bytes))

pub of_other_value : (fs : List WireField) (bytes : List ℕ) → Each HasRoom fs → fixed_in fs (bits_of bytes) ≡ false → values_spelled fs bytes ≡ None
of_other_value fs bytes room not_held = unspelled fs bytes (λ e.
    let vs : List ℤ = values_by fs (bits_of bytes) in
    let held : fixed_in fs (bits_of bytes) ≡ true = ap (fixed_in fs) (spelled_bits fs bytes e) ∙ held_in_spelling fs vs (replicate (zeros_behind (length (all_digits fs vs))) 0) room (counted_by fs (bits_of bytes)) (fields_by fs bytes).within in
    cc)

pub of_other_padding : (fs : List WireField) (bytes : List ℕ) → number_from_digits 2 (drop (bit_length fs) (bits_of bytes)) ≢ 0 → values_spelled fs bytes ≡ None
of_other_padding fs bytes other = unspelled fs bytes (λ e.
    let vs : List ℤ = values_by fs (bits_of bytes) in
    let zeros : ℕ = zeros_behind (length (all_digits fs vs)) in
    let rest : drop (bit_length fs) (bits_of bytes) ≡ replicate zeros 0 =
    ap (drop (bit_length fs)) (spelled_bits fs bytes e) ∙ drop_at (all_digits fs vs) (replicate zeros 0) (bit_length fs) (length_all_digits fs vs (counted_by fs (bits_of bytes))) in
    other (ap (number_from_digits 2) rest ∙ number_of_zeros zeros))

pub of_spelling : (fs : List WireField) (bytes : List ℕ) → AllBelowBase 256 bytes → length bytes ≡ byte_length fs → fixed_in fs (bits_of bytes) ≡ true
    → number_from_digits 2 (drop (bit_length fs) (bits_of bytes)) ≡ 0 → values_spelled fs bytes ≡ Some (values_by fs (bits_of bytes))
of_spelling fs bytes bound len held zero_rest =
    ap (λ b. provided b (values_by fs (bits_of bytes)))
    ((bytes_eq-Decides (spelling fs (values_by fs (bits_of bytes))) bytes).1 (spelling_read fs bytes bound len held zero_rest))
