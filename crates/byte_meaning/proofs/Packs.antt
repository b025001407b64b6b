-- Bits that are written into bytes are the bytes that they group into.
use Rattle.std.proofs.Common.{◌≡◌, ◌+◌, ◌-◌, ◌*◌, ◌/◌, ◌%◌, ◌^◌, ◌<◌, ℕ, zero, suc, ℤ, unsigned_abs, List, [], ◌∷◌, ◌++◌, length, replicate, map, drop, slice_get, Some, None, refl, ap, sym, ◌∙◌, append_assoc, append-nil, arith}
use Rattle.byte_meaning.specs.declared.spelling.Packed.{Packed}
use Rattle.tap_base.specs.declared.system.Field.{Field}
use Rattle.tap_base.specs.declared.wire.WireField.{WireField}
use Rattle.tap_exec.specs.Filling.{wire_field}
use Rattle.byte_meaning.specs.inner.Packing.{all_packed, one_packed}
use Rattle.byte_meaning.specs.Spelling.{all_digits, digits, grouped, padded}

abbrev whole : List ℕ → Packed
whole bytes = record { bytes = bytes; rest = 0; count = 0 }

packed_append : (xs ys : List ℕ) (w : Packed) → all_packed (xs ++ ys) w ≡ all_packed ys (all_packed xs w)
packed_append [] ys w = refl
packed_append (x ∷ xs) ys w = packed_append xs ys (one_packed w x)

packed_bytes : (bits bytes : List ℕ) → (all_packed bits (whole bytes)).bytes ≡ bytes ++ grouped bits
packed_bytes (a ∷ b ∷ c ∷ d ∷ e ∷ f ∷ g ∷ h ∷ bits) bytes =
    let x = 2 * (2 * (2 * (2 * (2 * (2 * (2 * (2 * 0 + a) + b) + c) + d) + e) + f) + g) + h in
    let y = 128 * a + 64 * b + 32 * c + 16 * d + 8 * e + 4 * f + 2 * g + h in
    let same : x ≡ y = omega arith in
    packed_bytes bits (bytes ++ (x ∷ [])) ∙ append_assoc bytes (x ∷ []) (grouped bits) ∙ ap (λ z. bytes ++ (z ∷ grouped bits)) same
packed_bytes (a ∷ b ∷ c ∷ d ∷ e ∷ f ∷ g ∷ []) bytes = sym (append-nil bytes)
packed_bytes (a ∷ b ∷ c ∷ d ∷ e ∷ f ∷ []) bytes = sym (append-nil bytes)
packed_bytes (a ∷ b ∷ c ∷ d ∷ e ∷ []) bytes = sym (append-nil bytes)
packed_bytes (a ∷ b ∷ c ∷ d ∷ []) bytes = sym (append-nil bytes)
packed_bytes (a ∷ b ∷ c ∷ []) bytes = sym (append-nil bytes)
packed_bytes (a ∷ b ∷ []) bytes = sym (append-nil bytes)
packed_bytes (a ∷ []) bytes = sym (append-nil bytes)
packed_bytes [] bytes = sym (append-nil bytes)

packed_count : (bits bytes : List ℕ) → (all_packed bits (whole bytes)).count ≡ length bits % 8
packed_count (a ∷ b ∷ c ∷ d ∷ e ∷ f ∷ g ∷ h ∷ bits) bytes =
    let x = 2 * (2 * (2 * (2 * (2 * (2 * (2 * (2 * 0 + a) + b) + c) + d) + e) + f) + g) + h in
    packed_count bits (bytes ++ (x ∷ [])) ∙ omega arith
packed_count (a ∷ b ∷ c ∷ d ∷ e ∷ f ∷ g ∷ []) bytes = refl
packed_count (a ∷ b ∷ c ∷ d ∷ e ∷ f ∷ []) bytes = refl
packed_count (a ∷ b ∷ c ∷ d ∷ e ∷ []) bytes = refl
packed_count (a ∷ b ∷ c ∷ d ∷ []) bytes = refl
packed_count (a ∷ b ∷ c ∷ []) bytes = refl
packed_count (a ∷ b ∷ []) bytes = refl
packed_count (a ∷ []) bytes = refl
packed_count [] bytes = refl

-- bits, and zeros behind them up to a whole byte
pub padded_bytes : (bits start : List ℕ) (w v : Packed) → start ≡ [] → w ≡ all_packed bits (whole start) → v ≡ all_packed (replicate ((8 - w.count) % 8) 0) w
    → v.bytes ≡ grouped (padded bits)
padded_bytes bits start w v none begins pads =
    let ends : w ≡ all_packed bits (whole []) = begins ∙ ap (λ bytes. all_packed bits (whole bytes)) none in
    let zeros = replicate ((8 - length bits % 8) % 8) 0 in
    let counted : w.count ≡ length bits % 8 = ap (λ (u : Packed). u.count) ends ∙ packed_count bits [] in
    ap (λ (u : Packed). u.bytes) (pads ∙ ap (λ n. all_packed (replicate ((8 - n) % 8) 0) w) counted ∙ ap (all_packed zeros) ends ∙ sym (packed_append bits zeros (whole [])))
    ∙ packed_bytes (padded bits) []

-- ---- one more bit of a value

pub next_digit : (width at n : ℕ) (w v : Packed) → at < width → v ≡ one_packed w (n / 2 ^ (width - 1 - at) % 2)
    → all_packed (digits (width - (at + 1)) n) v ≡ all_packed (digits (width - at) n) w
next_digit width at n w v h e =
    let k = width - (at + 1) in
    let left : width - at ≡ suc k = omega arith in
    let here : width - 1 - at ≡ k = omega arith in
    ap (all_packed (digits k n)) (e ∙ ap (λ j. one_packed w (n / 2 ^ j % 2)) here) ∙ ap (λ j. all_packed (digits j n) w) (sym left)

pub next_zero : (n i : ℕ) (w v : Packed) → i < n → v ≡ one_packed w 0 → all_packed (replicate (n - (i + 1)) 0) v ≡ all_packed (replicate (n - i) 0) w
next_zero n i w v h e =
    let k = n - (i + 1) in
    let left : n - i ≡ suc k = omega arith in
    ap (all_packed (replicate k 0)) e ∙ ap (λ j. all_packed (replicate j 0) w) (sym left)

-- ---- one more field

abbrev Left : List Field → List ℤ → ℕ → Packed → Packed
Left fields values k w = all_packed (all_digits (map wire_field (drop k fields)) (drop k values)) w

field_after : (fields : List Field) (values : List ℤ) (k : ℕ) (f : Field) (x : ℤ) (w v : Packed) → slice_get fields k ≡ Some f → slice_get values k ≡ Some x
    → v ≡ all_packed (digits f.width (unsigned_abs x)) w → Left fields values (suc k) v ≡ Left fields values k w
field_after [] values k f x w v is has e = cc
field_after (g ∷ gs) [] k f x w v is has e = cc
field_after (g ∷ gs) (y ∷ ys) zero f x w v is has e =
    let field : f ≡ g = cc in
    let value : x ≡ y = cc in
    let more = all_digits (map wire_field gs) ys in
    let digits_of : List ℕ = digits g.width (unsigned_abs y) in
    ap (all_packed more) (e ∙ ap (λ (h : Field). all_packed (digits h.width (unsigned_abs x)) w) field ∙ ap (λ z. all_packed (digits g.width (unsigned_abs z)) w) value)
    ∙ sym (packed_append digits_of more w)
field_after (g ∷ gs) (y ∷ ys) (suc k) f x w v is has e = field_after gs ys k f x w v is has e

no_digits : (fields : List WireField) → all_digits fields [] ≡ []
no_digits [] = refl
no_digits (f ∷ fs) = refl

pub no_value : (fields : List Field) (values : List ℤ) (k : ℕ) (w : Packed) → slice_get values k ≡ None → Left fields values k w ≡ w
no_value [] values zero w h = refl
no_value [] values (suc k) w h = refl
no_value (f ∷ fs) [] zero w h = refl
no_value (f ∷ fs) [] (suc k) w h = ap (λ bits. all_packed bits w) (no_digits (map wire_field (drop k fs)))
no_value (f ∷ fs) (y ∷ ys) zero w h = cc
no_value (f ∷ fs) (y ∷ ys) (suc k) w h = no_value fs ys k w h

pub next_field : (fields : List Field) (values : List ℤ) (k : ℕ) (f : Field) (x : ℤ) (w v : Packed) → slice_get fields k ≡ Some f → slice_get values k ≡ Some x
    → v ≡ all_packed (digits f.width (unsigned_abs x)) w → Left fields values (k + 1) v ≡ Left fields values k w
next_field fields values k f x w v is has e = let one : k + 1 ≡ suc k = omega arith in rw one (field_after fields values k f x w v is has e)
