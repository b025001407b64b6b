-- Fields that are looked at one after another.
use Rattle.std.proofs.Common.{◌≡◌, ℕ, zero, suc, ◌+◌, ◌*◌, ◌-◌, ◌<◌, ◌≤◌, List, [], ◌∷◌, length, take, drop, get_or, ap, sym, ◌∙◌, arith, Bool, true, false, ◌&&◌, Some}
use Rattle.std.specs.Prelude.{slice_get}
use Rattle.std.specs.Int.Digits.{number_from_digits}
use Rattle.std.proofs.lemmas.List.{length-drop, take_all, drop_all}
use Rattle.tap_base.specs.declared.wire.WireField.{WireField}
use Rattle.tap_base.specs.Lists.{Each}
use Rattle.tap_base.proofs.ListFacts.{cut_at, each_weaker}
use Rattle.byte_meaning.specs.Apart.{bit_length}
use Rattle.byte_meaning.specs.Reading.{bits_of}
use Rattle.byte_meaning.specs.inner.Held.{is_held}
use Rattle.byte_meaning.proofs.Digits.{length_bits}
use Rattle.byte_meaning.proofs.Held.{HasRoom, fixed_in}
use Rattle.byte_meaning.proofs.Spelled.{length_of_more}
use Rattle.message_layout.specs.Wires.{IsField}

pub rooms : (fields : List WireField) → Each IsField fields → Each HasRoom fields
rooms fields h = each_weaker IsField HasRoom fields (λ f is. is.fixed) h

false_front : (a b : Bool) → a ≡ false → (a && b) ≡ false
false_front a b h = cc

-- a fixed field that has another number
pub not_held : (fields : List WireField) (bits : List ℕ) (i at n : ℕ) (f : WireField) → slice_get fields i ≡ Some f → n ≡ number_from_digits 2 (take f.width (drop at bits)) → is_held f.fixed n ≡ false
    → fixed_in (drop i fields) (drop at bits) ≡ fixed_in fields bits → fixed_in fields bits ≡ false
not_held fields bits i at n f is number unheld same =
    sym same ∙ ap (λ fs. fixed_in fs (drop at bits)) (cut_at fields i f is)
    ∙ false_front (is_held f.fixed (number_from_digits 2 (take f.width (drop at bits)))) (fixed_in (drop (i + 1) fields) (drop f.width (drop at bits))) (ap (is_held f.fixed) (sym number) ∙ unheld)

pub held_at_end : (fields : List WireField) (bits : List ℕ) (i at : ℕ) → length fields ≤ i → fixed_in (drop i fields) (drop at bits) ≡ fixed_in fields bits → fixed_in fields bits ≡ true
held_at_end fields bits i at past same = sym same ∙ ap (λ fs. fixed_in fs (drop at bits)) (drop_all i fields past)

at_end : (fields : List WireField) (i at : ℕ) → length fields ≤ i → at + bit_length (drop i fields) ≡ bit_length fields → at ≡ bit_length fields
at_end fields i at past there =
    let sum : at + 0 ≡ bit_length fields = ap (λ fs. at + bit_length fs) (sym (drop_all i fields past)) ∙ there in
    omega arith

-- the padding is all that stands there
pub padding_at_end : (fields : List WireField) (bytes : List ℕ) (i at w n : ℕ) → length fields ≤ i → at + bit_length (drop i fields) ≡ bit_length fields
    → w ≡ 8 * length bytes - at → n ≡ number_from_digits 2 (take w (drop at (bits_of bytes))) → n ≡ number_from_digits 2 (drop (bit_length fields) (bits_of bytes))
padding_at_end fields bytes i at w n past there width number =
    let all : length (drop at (bits_of bytes)) ≡ 8 * length bytes - at = length-drop at (bits_of bytes) ∙ ap (λ k. k - at) (length_bits bytes) in
    number ∙ ap (number_from_digits 2) (take_all w (drop at (bits_of bytes)) (omega arith)) ∙ ap (λ k. number_from_digits 2 (drop k (bits_of bytes))) (at_end fields i at past there)

-- the fields so far take no more bits than all of them
pub front_bits : (fields : List WireField) (i : ℕ) (f : WireField) → i < length fields → bit_length (take i fields) + (get_or fields i f).width ≤ bit_length fields
front_bits [] i f h = absurd (omega arith)
front_bits (x ∷ fields) zero f h = let whole : bit_length (x ∷ fields) ≡ x.width + bit_length fields = length_of_more x fields in omega (arith, whole)
front_bits (x ∷ fields) (suc k) f h =
    let whole : bit_length (x ∷ fields) ≡ x.width + bit_length fields = length_of_more x fields in
    let more : bit_length (x ∷ take k fields) ≡ x.width + bit_length (take k fields) = length_of_more x (take k fields) in
    let rest = front_bits fields k f (omega arith) in
    omega (arith, whole, more, rest)
