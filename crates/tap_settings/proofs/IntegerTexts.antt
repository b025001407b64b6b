-- Texts of integers.
use Rattle.std.proofs.Common.{◌≡◌, ◌<◌, ◌≤◌, ◌⊎◌, inl, inr, ◌+◌, ◌/◌, ◌%◌, ◌^◌, ◌==◌, false, ℕ, zero, suc, ℤ, pos, negsuc, neg_ℤ, List, [], ◌∷◌, ◌++◌, Result, Ok, Err, length, get_or, refl, sym, ap, subst, ◌∙◌, arith, ne_eqb, IfSome}
use Rattle.std.specs.Prelude.{slice_index, FitsSigned}
use Rattle.std.specs.Fmt.{decimal, signed_decimal}
use Rattle.std.specs.Int.{w64}
use Rattle.std.specs.Result.{result_ok}
use Rattle.std.specs.Str.Parse.{ParsesSigned, IsNumeral, digits_value}
use Rattle.std.proofs.lemmas.Fmt.{decimal_by_steps, decimal_digit, decimal-digits_value}
use Rattle.std.proofs.lemmas.Str.Parse.{numerals_by_value, tells_digits}
use Rattle.tap_settings.specs.inner.Reading.{BeginsInteger, IsLeadingDigit}

-- ---- how decimals begin

abbrev Starts : ℕ → List ℕ → Type 0
Starts n ds = ((n ≡ 0) × (ds ≡ 48 ∷ [])) ⊎ IsLeadingDigit (slice_index ds 0)

one : (n : ℕ) → n < 10 → Starts n ((48 + n) ∷ [])
one zero h = inl (refl, refl)
one (suc n) h = inr (omega arith, omega (arith, h))

more : (n : ℕ) (ds : List ℕ) → 10 ≤ n → Starts (n / 10) ds → Starts n (ds ++ ((48 + n % 10) ∷ []))
more n ds h (inl e) = absurd (omega (arith, e.0, h))
more n [] h (inr k) = absurd (omega (arith, k.0))
more n (x ∷ ds) h (inr k) = inr (k.0, k.1)

starts : (n : ℕ) → n < 2 ^ 64 → Starts n (decimal n)
starts n h = decimal_by_steps Starts one more n h

plain_begins : (n : ℕ) (ds : List ℕ) → Starts n ds → BeginsInteger ds
plain_begins n ds (inl e) = inl e.1
plain_begins n ds (inr k) = inr (inl k)

minus_begins : (n : ℕ) (ds : List ℕ) → Starts (suc n) ds → BeginsInteger (45 ∷ ds)
minus_begins n ds (inl e) = absurd (omega (arith, e.0))
minus_begins n ds (inr k) = inr (inr (refl, k))

-- an integer is `0`, or begins with another digit, also behind `-`
pub integer_begins : (z : ℤ) → FitsSigned w64 z → BeginsInteger (signed_decimal z)
integer_begins (pos n) h = plain_begins n (decimal n) (starts n (omega (arith, h.sfits)))
integer_begins (negsuc n) h = minus_begins n (decimal (suc n)) (starts (suc n) (omega (arith, h.sfits)))

-- ---- what a text that begins so is read as

digits_read : (ds : List ℕ) → IsNumeral 10 ds → digits_value 10 ds < 2 ^ 64 → (get_or ds 0 0 ≡ 48 → length ds ≡ 1) → decimal (digits_value 10 ds) ≡ ds
digits_read ds n small alone = decimal-digits_value (numerals_by_value _ tells_digits) ds n.1 n.0 alone small

negated : (n : ℕ) (ds : List ℕ) → decimal n ≡ ds → 48 < slice_index ds 0 → 45 ∷ ds ≡ signed_decimal (neg_ℤ (pos n))
negated zero ds e h = let zeros : 48 ∷ [] ≡ ds = sym (decimal_digit 0 (omega arith)) ∙ e in absurd (omega (arith, ap (λ xs. get_or xs 0 0) zeros, h))
negated (suc n) ds e h = ap (λ xs. 45 ∷ xs) (sym e)

module _ (E : Type 0) where
  plainly : (bs : List ℕ) (z : ℤ) → (get_or bs 0 0 == 45) ≡ false → (get_or bs 0 0 == 43) ≡ false → (get_or bs 0 0 ≡ 48 → length bs ≡ 1) → ParsesSigned {E = E} w64 10 bs (Ok z) → bs ≡ signed_decimal z
  plainly bs z minus plus alone h =
      let k = rw (minus, plus) at h in
      sym (digits_read bs k.0.0 (omega (arith, k.0.1.sfits)) alone) ∙ ap signed_decimal (sym k.1)

  with_minus : (ds : List ℕ) (z : ℤ) → IsLeadingDigit (slice_index ds 0) → ParsesSigned {E = E} w64 10 (45 ∷ ds) (Ok z) → 45 ∷ ds ≡ signed_decimal z
  with_minus ds z first h =
      negated (digits_value 10 ds) ds (digits_read ds h.0.0 (below (digits_value 10 ds) h.0.1) (λ e. absurd (omega (arith, first.0)))) first.0 ∙ ap signed_decimal (sym h.1)
    where
      below : (n : ℕ) → FitsSigned w64 (neg_ℤ (pos n)) → n < 2 ^ 64
      below zero f = omega arith
      below (suc n) f = omega (arith, f.sfits)

  minus_there : (bs : List ℕ) (z : ℤ) → slice_index bs 0 ≡ 45 → IsLeadingDigit (slice_index bs 1) → ParsesSigned {E = E} w64 10 bs (Ok z) → bs ≡ signed_decimal z
  minus_there [] z e first h = absurd (omega (arith, e))
  minus_there (b ∷ ds) z e first h =
      let same : b ∷ ds ≡ 45 ∷ ds = ap (λ x. x ∷ ds) e in
      same ∙ with_minus ds z first (subst (λ xs. ParsesSigned {E = E} w64 10 xs (Ok z)) same h)

  pub spelled : (bs : List ℕ) (r : Result ℤ E) → BeginsInteger bs → ParsesSigned w64 10 bs r → IfSome (result_ok r) (λ z. bs ≡ signed_decimal z)
  spelled bs (Err e) begins h = tt
  spelled bs (Ok z) (inl e) h = plainly bs z (rw e refl) (rw e refl) (λ _. rw e refl) h
  spelled bs (Ok z) (inr (inl k)) h =
      plainly bs z (ne_eqb (get_or bs 0 0) 45 (λ e. omega (arith, k.0))) (ne_eqb (get_or bs 0 0) 43 (λ e. omega (arith, k.0))) (λ e. absurd (omega (arith, k.0))) h
  spelled bs (Ok z) (inr (inr k)) h = minus_there bs z k.0 k.1 h
