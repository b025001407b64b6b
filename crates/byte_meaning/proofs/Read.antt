-- Fields that are read one after another.
use Rattle.std.proofs.Common.{◌≡◌, ℕ, ◌+◌, ◌*◌, ◌/◌, ◌%◌, ◌^◌, ◌-◌, ◌<◌, ◌≤◌, ℤ, List, ◌++◌, length, get_or, take, drop, map, ap, sym, ◌∙◌, arith, append-nil, Bool, true, false, ◌&&◌, Some}
use Rattle.std.specs.Prelude.{slice_get}
use Rattle.std.specs.Int.Digits.{number_from_digits}
use Rattle.std.proofs.lemmas.Int.Digits.{number_more}
use Rattle.std.proofs.lemmas.List.{get_or-drop, length-drop, take_all, drop_all}
use Rattle.std.proofs.Math.Nat.{pow-suc}
use Rattle.tap_base.specs.declared.system.Field.{Field}
use Rattle.tap_base.specs.Lists.{Each}
use Rattle.tap_base.specs.Resolved.{IsField}
use Rattle.tap_base.proofs.ListFacts.{cut_at, each_map}
use Rattle.tap_exec.specs.Filling.{wire_field}
use Rattle.byte_meaning.specs.Apart.{bit_length}
use Rattle.byte_meaning.specs.Reading.{bits_of, values_by}
use Rattle.byte_meaning.specs.inner.Held.{is_held}
use Rattle.byte_meaning.proofs.Digits.{length_bits, bit_of_byte}
use Rattle.byte_meaning.proofs.Held.{HasRoom, fixed_in}

-- ---- one more bit

pub number_next : (bytes : List ℕ) (at i : ℕ) → at + i < 8 * length bytes
    → 2 * number_from_digits 2 (take i (drop at (bits_of bytes))) + get_or bytes ((at + i) / 8) 0 / 2 ^ (7 - (at + i) % 8) % 2 ≡ number_from_digits 2 (take (i + 1) (drop at (bits_of bytes)))
number_next bytes at i h =
    let bits : List ℕ = bits_of bytes in
    let len : length (drop at bits) ≡ 8 * length bytes - at = length-drop at bits ∙ ap (λ n. n - at) (length_bits bytes) in
    let place : at + i ≡ 8 * ((at + i) / 8) + (at + i) % 8 = omega arith in
    let bit : get_or (drop at bits) i 0 ≡ get_or bytes ((at + i) / 8) 0 / 2 ^ (7 - (at + i) % 8) % 2 =
    get_or-drop at bits i 0 ∙ ap (λ k. get_or bits k 0) place ∙ bit_of_byte bytes ((at + i) / 8) ((at + i) % 8) (omega arith) (omega arith) in
    let more : number_from_digits 2 (take (i + 1) (drop at bits)) ≡ number_from_digits 2 (take i (drop at bits)) * 2 + get_or (drop at bits) i 0 = number_more 2 (drop at bits) i (omega arith) in
    omega (arith, more, bit)

pub small_next : (n i x : ℕ) → n < 2 ^ i → 2 * n + x % 2 < 2 ^ (i + 1)
small_next n i x h = let e : 2 ^ (i + 1) ≡ 2 ^ i * 2 = ap (λ k. 2 ^ k) (omega arith) ∙ pow-suc 2 i in omega arith

-- ---- the next field

pub rooms : (fields : List Field) → Each IsField fields → Each HasRoom (map wire_field fields)
rooms fields h = each_map IsField HasRoom wire_field fields (λ f is. is.2) h

false_front : (a b : Bool) → a ≡ false → (a && b) ≡ false
false_front a b h = cc

-- a fixed field that has another number
pub not_held : (fields : List Field) (bits : List ℕ) (i at n : ℕ) (f : Field) → slice_get fields i ≡ Some f → n ≡ number_from_digits 2 (take f.width (drop at bits)) → is_held f.fixed n ≡ false
    → fixed_in (map wire_field (drop i fields)) (drop at bits) ≡ fixed_in (map wire_field fields) bits → fixed_in (map wire_field fields) bits ≡ false
not_held fields bits i at n f is number unheld same =
    let more : List Field = drop (i + 1) fields in
    sym same ∙ ap (λ fs. fixed_in (map wire_field fs) (drop at bits)) (cut_at fields i f is)
    ∙ false_front (is_held f.fixed (number_from_digits 2 (take f.width (drop at bits)))) (fixed_in (map wire_field more) (drop f.width (drop at bits))) (ap (is_held f.fixed) (sym number) ∙ unheld)

-- ---- behind the last field

pub held_at_end : (fields : List Field) (bits : List ℕ) (i at : ℕ) → length fields ≤ i → fixed_in (map wire_field (drop i fields)) (drop at bits) ≡ fixed_in (map wire_field fields) bits
    → fixed_in (map wire_field fields) bits ≡ true
held_at_end fields bits i at past same = sym same ∙ ap (λ fs. fixed_in (map wire_field fs) (drop at bits)) (drop_all i fields past)

pub values_at_end : (fields : List Field) (values : List ℤ) (bits : List ℕ) (i at : ℕ) → length fields ≤ i
    → values ++ values_by (map wire_field (drop i fields)) (drop at bits) ≡ values_by (map wire_field fields) bits → values ≡ values_by (map wire_field fields) bits
values_at_end fields values bits i at past same =
    sym (append-nil values) ∙ ap (λ fs. values ++ values_by (map wire_field fs) (drop at bits)) (sym (drop_all i fields past)) ∙ same

at_end : (fields : List Field) (i at : ℕ) → length fields ≤ i → at + bit_length (map wire_field (drop i fields)) ≡ bit_length (map wire_field fields) → at ≡ bit_length (map wire_field fields)
at_end fields i at past there =
    let sum : at + 0 ≡ bit_length (map wire_field fields) = ap (λ fs. at + bit_length (map wire_field fs)) (sym (drop_all i fields past)) ∙ there in
    omega arith

-- the padding is all that stands there
pub padding_at_end : (fields : List Field) (bytes : List ℕ) (i at w n : ℕ) → length fields ≤ i → at + bit_length (map wire_field (drop i fields)) ≡ bit_length (map wire_field fields)
    → w ≡ 8 * length bytes - at → n ≡ number_from_digits 2 (take w (drop at (bits_of bytes))) → n ≡ number_from_digits 2 (drop (bit_length (map wire_field fields)) (bits_of bytes))
padding_at_end fields bytes i at w n past there width number =
    let all : length (drop at (bits_of bytes)) ≡ 8 * length bytes - at = length-drop at (bits_of bytes) ∙ ap (λ k. k - at) (length_bits bytes) in
    number ∙ ap (number_from_digits 2) (take_all w (drop at (bits_of bytes)) (omega arith)) ∙ ap (λ k. number_from_digits 2 (drop k (bits_of bytes))) (at_end fields i at past there)
