-- Bits put one behind another.
use Rattle.std.proofs.Common.{◌≡◌, ℕ, zero, suc, ◌+◌, ◌*◌, ◌/◌, ◌%◌, ◌^◌, ◌-◌, ◌<◌, ◌≤◌, ◌≢◌, ℤ, List, [], ◌∷◌, ◌++◌, length, get_or, take, drop, set, replicate, refl, ap, sym, ◌∙◌, arith, length-append}
use Rattle.std.specs.Prelude.{unsigned_abs}
use Rattle.std.specs.Int.Digits.{AllBelowBase}
use Rattle.std.proofs.lemmas.List.{append-nil, append_assoc, take_more, take_more_set, drop-set-lt, take_all, drop-drop, length-take-le, take-append-drop}
use Rattle.std.proofs.lemmas.List.Concat.{flat_map-append}
use Rattle.std.proofs.Math.Nat.{pow-suc}
use Rattle.std.proofs.lemmas.Nat.{shr-shr}
use Rattle.tap_base.specs.declared.wire.WireField.{WireField}
use Rattle.byte_meaning.specs.Messages.{AreFields}
use Rattle.byte_meaning.specs.Spelling.{all_digits, digits, padded, spelling}
use Rattle.byte_meaning.specs.Apart.{bit_length, byte_length}
use Rattle.byte_meaning.specs.Reading.{bits_of}
use Rattle.byte_meaning.proofs.Digits.{below_take, digit_at, length_bits, length_digits}
use Rattle.byte_meaning.proofs.Spelled.{counted_as, length_all_digits, length_spelling, spelling_by_bits}
use Rattle.bit_codec.specs.declared.writer.Pending.{Pending}
use Rattle.bit_codec.specs.inner.Puts.{IsFilled, IsReady, Puts, nothing_pending, written}

-- ---- digits

-- a digit more at the end
digits_more : (w n b : ℕ) → b < 2 → digits (w + 1) (2 * n + b) ≡ digits w n ++ b ∷ []
digits_more zero n b h = ap (λ x. x ∷ []) (omega arith)
digits_more (suc w) n b h =
    let k : suc w + 1 ≡ suc (w + 1) = omega arith in
    let one : (2 * n + b) / 2 ^ (w + 1) ≡ n / 2 ^ w =
    ap (λ j. (2 * n + b) / 2 ^ j) (omega arith) ∙ sym (shr-shr (2 * n + b) 1 w) ∙ (let half : (2 * n + b) / 2 ^ 1 ≡ n = omega arith in ap (λ x. x / 2 ^ w) half) in
    ap (λ j. digits j (2 * n + b)) k ∙ ap (λ x. x % 2 ∷ digits (w + 1) (2 * n + b)) one ∙ ap (λ ds. n / 2 ^ w % 2 ∷ ds) (digits_more w n b h)

digits_of_zero : (w : ℕ) → digits w 0 ≡ replicate w 0
digits_of_zero zero = refl
digits_of_zero (suc w) = let z : 0 / 2 ^ w % 2 ≡ 0 = omega arith in ap (λ b. b ∷ digits w 0) z ∙ ap (λ ds. 0 ∷ ds) (digits_of_zero w)

small_more : (n i b : ℕ) → n < 2 ^ i → b < 2 → 2 * n + b < 2 ^ (i + 1)
small_more n i b h g = let e : 2 ^ (i + 1) ≡ 2 ^ i * 2 = ap (λ k. 2 ^ k) (omega arith) ∙ pow-suc 2 i in omega arith

-- ---- one bit

-- a bit fills a byte
pub put_full : (room : List ℕ) (p : Pending) (b : ℕ) → b < 2 → p.count ≡ 7 → p.at < length room
    → Puts room p (b ∷ []) (set room p.at (2 * p.bits + b)) (record { at = p.at + 1; count = 0; bits = 0 })
put_full room p b h e within =
    let front : List ℕ = take p.at room in
    let byte : ℕ = 2 * p.bits + b in
    record {
      written = append-nil (bits_of (take (p.at + 1) (set room p.at byte)))
          ∙ ap bits_of (take_more_set room p.at byte within) ∙ flat_map-append (digits 8) front (byte ∷ [])
          ∙ ap (λ xs. bits_of front ++ xs) (append-nil (digits 8 byte) ∙ digits_more 7 p.bits b h)
          ∙ sym (append_assoc (bits_of front) (digits 7 p.bits) (b ∷ []))
          ∙ ap (λ k. bits_of front ++ digits k p.bits ++ b ∷ []) (sym e);
      behind = drop-set-lt (p.at + 1) room p.at byte (omega arith);
      ready = record { few = omega arith; small = omega arith };
      place = omega arith;
    }

-- a bit waits
pub put_waits : (room : List ℕ) (p : Pending) (b : ℕ) → b < 2 → IsReady p → p.count ≢ 7
    → Puts room p (b ∷ []) room (record { at = p.at; count = p.count + 1; bits = 2 * p.bits + b })
put_waits room p b h ready e =
    let front : List ℕ = bits_of (take p.at room) in
    record {
      written = ap (λ xs. front ++ xs) (digits_more p.count p.bits b h) ∙ sym (append_assoc front (digits p.count p.bits) (b ∷ []));
      behind = refl;
      ready = let few : p.count < 8 = ready.few in record { few = omega arith; small = small_more p.bits p.count b ready.small h };
      place = omega arith;
    }

-- ---- bits behind bits

pub puts_none : (room : List ℕ) (p : Pending) → IsReady p → Puts room p [] room p
puts_none room p ready = record { written = sym (append-nil (written room p)); behind = refl; ready = ready; place = omega arith }

drop_further : (xs ys : List ℕ) (m n : ℕ) → m ≤ n → drop m xs ≡ drop m ys → drop n xs ≡ drop n ys
drop_further xs ys m n h e =
    let k : m + (n - m) ≡ n = omega arith in
    ap (λ i. drop i xs) (sym k) ∙ sym (drop-drop (n - m) m xs) ∙ ap (drop (n - m)) e ∙ drop-drop (n - m) m ys ∙ ap (λ i. drop i ys) k

pub puts_more : (a : List ℕ) (p : Pending) (xs b : List ℕ) (q : Pending) (ys c : List ℕ) (r : Pending) (all : List ℕ) → Puts a p xs b q → Puts b q ys c r → xs ++ ys ≡ all → Puts a p all c r
puts_more a p xs b q ys c r all g h e =
    let gp : 8 * q.at + q.count ≡ 8 * p.at + p.count + length xs = g.place in
    let hp : 8 * r.at + r.count ≡ 8 * q.at + q.count + length ys = h.place in
    let few : r.count < 8 = h.ready.few in
    let len : length all ≡ length xs + length ys = sym (ap length e) ∙ length-append xs ys in
    record {
      written = h.written ∙ ap (λ bits. bits ++ ys) g.written ∙ append_assoc (written a p) xs ys ∙ ap (λ bits. written a p ++ bits) e;
      behind = h.behind ∙ drop_further b a q.at r.at (omega arith) g.behind;
      ready = h.ready;
      place = omega arith;
    }

-- one more digit
pub digit_taken : (w n i : ℕ) → i < w → take i (digits w n) ++ (n / 2 ^ (w - 1 - i) % 2 ∷ []) ≡ take (i + 1) (digits w n)
digit_taken w n i h =
    let len = length_digits w n in
    ap (λ b. take i (digits w n) ++ (b ∷ [])) (sym (digit_at w n i h)) ∙ sym (take_more (digits w n) i 0 (omega arith))

pub digits_taken : (w n i : ℕ) → w ≤ i → take i (digits w n) ≡ digits w n
digits_taken w n i h = let len = length_digits w n in take_all i (digits w n) (omega arith)

pub length_digits_taken : (w n i : ℕ) → i ≤ w → length (take i (digits w n)) ≡ i
length_digits_taken w n i h = let len = length_digits w n in length-take-le i (digits w n) (omega arith)

-- one more field
pub field_taken : (fs : List WireField) (vs : List ℤ) (i : ℕ) (f : WireField) (v : ℤ) → i < length fs → i < length vs
    → all_digits (take i fs) (take i vs) ++ digits (get_or fs i f).width (unsigned_abs (get_or vs i v)) ≡ all_digits (take (i + 1) fs) (take (i + 1) vs)
field_taken [] vs i f v g h = absurd (omega arith)
field_taken (x ∷ fs) [] i f v g h = absurd (omega arith)
field_taken (x ∷ fs) (y ∷ vs) zero f v g h = sym (append-nil (digits x.width (unsigned_abs y)))
field_taken (x ∷ fs) (y ∷ vs) (suc i) f v g h =
    append_assoc (digits x.width (unsigned_abs y)) (all_digits (take i fs) (take i vs)) (digits (get_or fs i f).width (unsigned_abs (get_or vs i v)))
    ∙ ap (λ bits. digits x.width (unsigned_abs y) ++ bits) (field_taken fs vs i f v (omega arith) (omega arith))
    ∙ (let e : suc i + 1 ≡ suc (i + 1) = omega arith in ap (λ k. all_digits (take k (x ∷ fs)) (take k (y ∷ vs))) (sym e))

-- ---- the last byte

length_written : (room : List ℕ) (p : Pending) → 8 * p.at + p.count ≤ 8 * length room → length (written room p) ≡ 8 * p.at + p.count
length_written room p fits =
    let before : length (take p.at room) ≡ p.at = length-take-le p.at room (omega arith) in
    length-append (bits_of (take p.at room)) (digits p.count p.bits) ∙ (let a = length_bits (take p.at room) in let b = length_digits p.count p.bits in omega arith)

pub filled : (old : List ℕ) (p : Pending) (new : List ℕ) (q : Pending) → IsReady p → 0 < p.count → 8 * p.at + p.count ≤ 8 * length old → length new ≡ length old
    → Puts old p (digits (8 - p.count) 0) new q → IsFilled old p new q.at
filled old p new q ready some room len h =
    let few : p.count < 8 = ready.few in
    let less : q.count < 8 = h.ready.few in
    let dl = length_digits (8 - p.count) 0 in
    let place : 8 * q.at + q.count ≡ 8 * p.at + p.count + length (digits (8 - p.count) 0) = h.place in
    let none : q.count ≡ 0 = omega arith in
    let wl = length_written old p room in
    let pad : 8 - p.count ≡ (8 - length (written old p) % 8) % 8 = omega arith in
    record {
      written = sym (append-nil (bits_of (take q.at new))) ∙ ap (λ k. bits_of (take q.at new) ++ digits k q.bits) (sym none) ∙ h.written
          ∙ ap (λ xs. written old p ++ xs) (digits_of_zero (8 - p.count)) ∙ ap (λ n. written old p ++ replicate n 0) pad;
      behind = h.behind;
      place = omega arith;
      within = omega arith;
    }

pub filled_whole : (room : List ℕ) (p : Pending) → p.count ≡ 0 → 8 * p.at + p.count ≤ 8 * length room → IsFilled room p room p.at
filled_whole room p none fits =
    let wl = length_written room p fits in
    let pad : (8 - length (written room p) % 8) % 8 ≡ 0 = omega arith in
    let front : List ℕ = bits_of (take p.at room) in
    record {
      written = sym (append-nil front) ∙ ap (λ k. front ++ digits k p.bits) (sym none) ∙ sym (append-nil (written room p)) ∙ ap (λ n. written room p ++ replicate n 0) (sym pad);
      behind = refl;
      place = omega arith;
      within = omega arith;
    }

-- ---- the whole message stands in front

pub encoded : (fs : List WireField) (vs : List ℤ) (old mid new : List ℕ) (p : Pending) (at : ℕ) → AllBelowBase 256 new → AreFields fs vs
    → Puts old nothing_pending (all_digits fs vs) mid p → IsFilled mid p new at → (new ≡ spelling fs vs ++ drop at old) × (at ≡ byte_length fs)
encoded fs vs old mid new p at bound fit g h =
    let front : spelling fs vs ≡ take at new = spelling_by_bits fs vs (take at new) (below_take 256 at new bound) (h.written ∙ ap padded g.written) in
    let len : length (spelling fs vs) ≡ byte_length fs = length_spelling fs vs (counted_as fs vs fit) in
    let whole : length (take at new) ≡ at = length-take-le at new h.within in
    let few : p.count < 8 = g.ready.few in
    let same : at ≡ byte_length fs = sym whole ∙ sym (ap length front) ∙ len in
    let fl : length (all_digits fs vs) ≡ bit_length fs = length_all_digits fs vs (counted_as fs vs fit) in
    let place : 8 * p.at + p.count ≡ 8 * 0 + 0 + length (all_digits fs vs) = g.place in
    let bits : bit_length fs ≤ 8 * at = omega arith in
    (sym (take-append-drop at new) ∙ ap (λ xs. xs ++ drop at new) (sym front) ∙ ap (λ xs. spelling fs vs ++ xs) (h.behind ∙ drop_further mid old p.at at (omega arith) g.behind), same)
