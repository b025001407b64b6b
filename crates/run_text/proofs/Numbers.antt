-- Numbers that words write.
use Rattle.std.proofs.Common.{◌≡◌, ◌<◌, ◌≤◌, ◌+◌, ◌/◌, ◌%◌, ◌++◌, ◌^◌, ◌==◌, ◌⊎◌, inl, inr, ℕ, zero, suc, ℤ, pos, negsuc, Bool, true, false, List, [], ◌∷◌, length, drop, get_or, Result, Ok, Err, refl, ap, sym, to_z, of_z, subst, ◌∙◌, arith, ne_eqb, lit<}
use Rattle.std.specs.Prelude.{FitsSigned, neg_ℤ, slice_index}
use Rattle.std.specs.Int.{w64}
use Rattle.std.specs.Fmt.{decimal, signed_decimal}
use Rattle.std.specs.Str.{IsAscii, IsUtf8}
use Rattle.std.specs.Str.Parse.{AllDigits, ParsesSigned, ParsesUnsigned, digits_value}
use Rattle.std.proofs.lemmas.Fmt.{IsAscii-decimal, decimal-digits_value, decimal_by_steps, decimal_is_IsNumeral, parse-decimal}
use Rattle.std.proofs.lemmas.Int.{to_z-of_z}
use Rattle.std.proofs.lemmas.Str.{IsUtf8-from_ascii}
use Rattle.std.proofs.lemmas.Str.Parse.{numerals_by_value, parse_signed_minus, parse_signed_plain, tells_digits}
use Rattle.run_text.proofs.Decimals.{decimal_begins, decimal_text}
use Rattle.run_text.specs.inner.Reading.{BeginsInteger, BeginsNumber}
use Rattle.run_text.specs.Operands.{IsIntegerWord, IsLongWord}

-- ---- no sign

no_plus : (ds : List ℕ) → BeginsNumber ds → (get_or ds 0 0 == 43) ≡ false
no_plus ds (inl e) = rw e refl
no_plus ds (inr h) = ne_eqb (get_or ds 0 0) 43 (omega arith)

alone : (ds : List ℕ) → BeginsNumber ds → get_or ds 0 0 ≡ 48 → length ds ≡ 1
alone ds (inl e) low = rw e refl
alone ds (inr h) low = absurd (omega arith)

pub long_spelled : {E : Type 0} (ds : List ℕ) (r : Result ℕ E) (n : ℕ) → r ≡ Ok n → BeginsNumber ds → ParsesUnsigned 64 10 ds r → IsLongWord ds n
long_spelled ds (Err e) n is begins h = cc
long_spelled ds (Ok m) n is begins h =
    let k = rw (no_plus ds begins) at h in
    let small : digits_value 10 ds < 2 ^ 64 = k.0.1 in
    let same : n ≡ digits_value 10 ds = cc (k.1, is) in
    let back = decimal-digits_value (numerals_by_value _ tells_digits) ds k.0.0.1 k.0.0.0 (alone ds begins) small in
    (omega (arith, same, small), sym back ∙ ap decimal (sym same))

pub long_refused : {E : Type 0} (ds : List ℕ) (r : Result ℕ E) (e : E) (n : ℕ) → r ≡ Err e → ParsesUnsigned 64 10 ds r → IsLongWord ds n → ⊥
long_refused ds r e n is h w = let k = parse-decimal 64 n ds r w.0 w.0 w.1 h in cc

pub long_begins : (word : List ℕ) (n : ℕ) → IsLongWord word n → BeginsNumber word
long_begins word n w = subst BeginsNumber (sym w.1) (decimal_begins n w.0)

pub long_text : (word : List ℕ) (n : ℕ) → IsLongWord word n → IsUtf8 word
long_text word n w = subst IsUtf8 (sym w.1) (decimal_text n w.0)

-- ---- with a minus

first_plain : (ds : List ℕ) → BeginsNumber ds → (get_or ds 0 0 ≡ 43 → ⊥) × (get_or ds 0 0 ≡ 45 → ⊥)
first_plain ds (inl e) = rw e (λ k. omega (arith, k), λ k. omega (arith, k))
first_plain ds (inr h) = (λ k. omega (arith, k), λ k. omega (arith, k))

plain : {E : Type 0} (ds : List ℕ) (r : Result ℤ E) (z : ℤ) → r ≡ Ok z → BeginsNumber ds → ParsesSigned w64 10 ds r → IsIntegerWord ds z
plain {E} ds (Err e) z is begins h = cc
plain {E} ds (Ok y) z is begins h =
    let f = first_plain ds begins in
    let k = parse_signed_plain (numerals_by_value _ tells_digits) {E = E} w64 ds (Ok y) h f.0 f.1 in
    let same : z ≡ pos (digits_value 10 ds) = cc (k.1, is) in
    let small : digits_value 10 ds < 2 ^ 63 = k.0.2 in
    subst (IsIntegerWord ds) (sym same) (search (arith, small), sym (decimal-digits_value (numerals_by_value _ tells_digits) ds k.0.0 k.0.1 (alone ds begins) (omega (arith, small))))

-- the decimal of 0
abbrev IsZero : ℕ → List ℕ → Type 0
IsZero n ds = n ≡ 0 → ds ≡ 48 ∷ []

zero_one : (n : ℕ) → n < 10 → IsZero n ((48 + n) ∷ [])
zero_one n h e = ap (λ m. (48 + m) ∷ []) e

zero_more : (n : ℕ) (ds : List ℕ) → 10 ≤ n → IsZero (n / 10) ds → IsZero n (ds ++ ((48 + n % 10) ∷ []))
zero_more n ds h k e = absurd (omega (arith, h, e))

decimal_zero : decimal 0 ≡ 48 ∷ []
decimal_zero = decimal_by_steps IsZero zero_one zero_more 0 (lit< tt) refl

negative : (n : ℕ) (ds : List ℕ) → n ≤ 2 ^ 63 → decimal n ≡ ds → 48 < slice_index ds 0 → IsIntegerWord (45 ∷ ds) (neg_ℤ (pos n))
negative zero ds h e high = let s : 48 ≡ slice_index ds 0 = ap (λ w. slice_index w 0) (sym decimal_zero ∙ e) in absurd (omega (arith, s, high))
negative (suc n) ds h e high = (search (arith, h), ap (λ w. 45 ∷ w) (sym e))

minus_split : (ds : List ℕ) → slice_index ds 0 ≡ 45 → ds ≡ 45 ∷ drop 1 ds
minus_split [] h = absurd (omega (arith, h))
minus_split (x ∷ xs) h = ap (λ y. y ∷ xs) h

second : (ds : List ℕ) → slice_index ds 0 ≡ 45 → slice_index (drop 1 ds) 0 ≡ slice_index ds 1
second [] h = absurd (omega (arith, h))
second (x ∷ []) h = refl
second (x ∷ y ∷ xs) h = refl

signed : {E : Type 0} (ds : List ℕ) (r : Result ℤ E) (z : ℤ) → r ≡ Ok z → slice_index ds 0 ≡ 45 → 48 < slice_index ds 1 → ParsesSigned w64 10 ds r → IsIntegerWord ds z
signed {E} ds (Err e) z is minus high h = cc
signed {E} ds (Ok y) z is minus high h =
    let k = parse_signed_minus (numerals_by_value _ tells_digits) {E = E} w64 ds (Ok y) h minus in
    let same : z ≡ neg_ℤ (pos (digits_value 10 (drop 1 ds))) = cc (k.1, is) in
    let small : digits_value 10 (drop 1 ds) ≤ 2 ^ 63 = k.0.2 in
    let s = second ds minus in
    let up : 48 < slice_index (drop 1 ds) 0 = omega (arith, s, high) in
    let back = decimal-digits_value (numerals_by_value _ tells_digits) (drop 1 ds) k.0.0 k.0.1 (λ low. absurd (omega (arith, low, up))) (omega (arith, small)) in
    let w = negative (digits_value 10 (drop 1 ds)) (drop 1 ds) small back up in
    subst (λ x. IsIntegerWord x z) (sym (minus_split ds minus)) (subst (IsIntegerWord (45 ∷ drop 1 ds)) (sym same) w)

pub integer_spelled : {E : Type 0} (ds : List ℕ) (r : Result ℤ E) (z : ℤ) → r ≡ Ok z → BeginsInteger ds → ParsesSigned w64 10 ds r → IsIntegerWord ds z
integer_spelled ds r z is (inl begins) h = plain ds r z is begins h
integer_spelled ds r z is (inr k) h = signed ds r z is k.0 k.1 h

pub integer_refused : {E : Type 0} (ds : List ℕ) (r : Result ℤ E) (e : E) (z : ℤ) → r ≡ Err e → ParsesSigned w64 10 ds r → IsIntegerWord ds z → ⊥
integer_refused {E} ds (Ok y) e z is h w = cc
integer_refused {E} ds (Err f) e (pos n) is h w =
    let first = first_plain ds (subst BeginsNumber (sym w.1) (decimal_begins n (omega (arith, w.0)))) in
    let d = decimal_is_IsNumeral n (omega (arith, w.0)) in
    let k = parse_signed_plain (numerals_by_value _ tells_digits) {E = E} w64 ds (Err f) h first.0 first.1 in
    let value : digits_value 10 ds ≡ n = ap (digits_value 10) w.1 ∙ d.1 in
    k (subst (AllDigits 10) (sym w.1) d.0.1, subst (λ x. 0 < length x) (sym w.1) d.0.0, omega (arith, value, w.0))
integer_refused {E} ds (Err f) e (negsuc n) is h w =
    let d = decimal_is_IsNumeral (suc n) (omega (arith, w.0)) in
    let rest : drop 1 ds ≡ decimal (suc n) = ap (λ x. drop 1 x) w.1 in
    let k = parse_signed_minus (numerals_by_value _ tells_digits) {E = E} w64 ds (Err f) h (ap (λ x. get_or x 0 0) w.1) in
    let all : AllDigits 10 (drop 1 ds) = subst (AllDigits 10) (sym rest) d.0.1 in
    let some : 0 < length (drop 1 ds) = subst (λ x. 0 < length x) (sym rest) d.0.0 in
    let value : digits_value 10 (drop 1 ds) ≡ suc n = ap (digits_value 10) rest ∙ d.1 in
    k (all, some, omega (arith, value, w.0))

not_zero : (n : ℕ) → suc n < 2 ^ 64 → decimal (suc n) ≡ 48 ∷ [] → ⊥
not_zero n h e = let v : suc n ≡ 0 = sym (decimal_is_IsNumeral (suc n) h).1 ∙ ap (digits_value 10) e in omega (arith, v)

pub integer_begins : (word : List ℕ) (z : ℤ) → IsIntegerWord word z → BeginsInteger word
integer_begins word (pos n) w = inl (subst BeginsNumber (sym w.1) (decimal_begins n (omega (arith, w.0))))
integer_begins word (negsuc n) w = subst BeginsInteger (sym w.1) (inr (by (decimal_begins (suc n) (omega (arith, w.0))))) where
  by : BeginsNumber (decimal (suc n)) → (slice_index (45 ∷ decimal (suc n)) 0 ≡ 45) × (48 < slice_index (decimal (suc n)) 0) × (slice_index (decimal (suc n)) 0 < 58)
  by (inl e) = absurd (not_zero n (omega (arith, w.0)) e)
  by (inr h) = (refl, h.0, h.1)

minus_ascii : (ds : List ℕ) → IsAscii ds → IsAscii (45 ∷ ds)
minus_ascii ds h zero = lit< tt
minus_ascii ds h (suc i) = h i

pub integer_text : (word : List ℕ) (z : ℤ) → IsIntegerWord word z → IsUtf8 word
integer_text word (pos n) w = subst IsUtf8 (sym w.1) (decimal_text n (omega (arith, w.0)))
integer_text word (negsuc n) w = subst IsUtf8 (sym w.1) (IsUtf8-from_ascii (45 ∷ decimal (suc n)) (minus_ascii (decimal (suc n)) (IsAscii-decimal (suc n) (omega (arith, w.0)))))

pub one_number : (w : List ℕ) (m n : ℕ) → IsLongWord w m → IsLongWord w n → m ≡ n
one_number w m n a b = sym (decimal_is_IsNumeral m a.0).1 ∙ ap (digits_value 10) (sym a.1 ∙ b.1) ∙ (decimal_is_IsNumeral n b.0).1

pub integer_back : (z : ℤ) → FitsSigned w64 z → to_z w64 (of_z w64 z) ≡ z
integer_back z h = to_z-of_z w64 z h

pub one_up_to : (w : List ℕ) (n m most : ℕ) → most < m → (n ≤ most) × (w ≡ decimal n) → (m < 2 ^ 32) × (w ≡ decimal m) → ⊥
one_up_to w n m most h a b = let same = one_number w n m (omega (arith, a.0, h, b.0), a.1) (omega (arith, b.0), b.1) in omega (arith, same, a.0, h)
