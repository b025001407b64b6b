-- What decimals look like.
use Rattle.std.proofs.Common.{◌≡◌, ◌<◌, ◌≤◌, ◌⊎◌, inl, inr, ◌+◌, ◌/◌, ◌%◌, ◌^◌, ℕ, zero, suc, List, [], ◌∷◌, ◌++◌, refl, arith}
use Rattle.std.specs.Prelude.{slice_index}
use Rattle.std.specs.Fmt.{decimal}
use Rattle.std.specs.Str.{IsUtf8}
use Rattle.std.proofs.lemmas.Fmt.{decimal_by_steps, IsAscii-decimal}
use Rattle.std.proofs.lemmas.Str.{IsUtf8-from_ascii}
use Rattle.run_text.specs.inner.Reading.{BeginsNumber}

abbrev Starts : ℕ → List ℕ → Type 0
Starts n ds = ((n ≡ 0) × (ds ≡ 48 ∷ [])) ⊎ ((48 < slice_index ds 0) × (slice_index ds 0 < 58))

one : (n : ℕ) → n < 10 → Starts n ((48 + n) ∷ [])
one zero h = inl (refl, refl)
one (suc n) h = inr (omega arith, omega (arith, h))

more : (n : ℕ) (ds : List ℕ) → 10 ≤ n → Starts (n / 10) ds → Starts n (ds ++ ((48 + n % 10) ∷ []))
more n ds h (inl e) = absurd (omega (arith, e.0, h))
more n [] h (inr k) = absurd (omega (arith, k.0))
more n (x ∷ ds) h (inr k) = inr (k.0, k.1)

begins : (n : ℕ) (ds : List ℕ) → Starts n ds → BeginsNumber ds
begins n ds (inl e) = inl e.1
begins n ds (inr k) = inr (k.0, k.1)

-- a decimal is `0`, or begins with another digit
pub decimal_begins : (n : ℕ) → n < 2 ^ 64 → BeginsNumber (decimal n)
decimal_begins n h = begins n (decimal n) (decimal_by_steps Starts one more n h)

pub decimal_text : (n : ℕ) → n < 2 ^ 64 → IsUtf8 (decimal n)
decimal_text n h = IsUtf8-from_ascii (decimal n) (IsAscii-decimal n h)
