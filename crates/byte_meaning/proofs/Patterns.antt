-- Messages that are told apart by a bit, and such as are not.
use Rattle.std.proofs.Common.{◌≡◌, inl, inr, ℕ, zero, suc, [], ◌∷◌, ◌++◌, replicate, refl, Option, Some, None}
use Rattle.std.specs.Prelude.{slice_get}
use Rattle.byte_meaning.specs.Apart.{Apart}
use Rattle.byte_meaning.specs.Worked.{ByFixedBit, ByPadding, NotByFreeBits, fixed, free}

pub by_fixed_bit : ByFixedBit
by_fixed_bit = inr (6, record { bit = 0; there = refl; other_bit = 1; other_there = refl; differ = λ e. absurd (cc) })

pub by_padding : ByPadding
by_padding = inr (7, record { bit = 0; there = refl; other_bit = 1; other_there = refl; differ = λ e. absurd (cc) })

none_fixed : (n k b : ℕ) → slice_get (replicate {A = Option ℕ} n None ++ []) k ≡ Some (Some b) → ⊥
none_fixed zero k b h = absurd (cc)
none_fixed (suc n) zero b h = absurd (cc)
none_fixed (suc n) (suc k) b h = none_fixed n k b h

free_first : Apart (free 8 ∷ []) (free 8 ∷ []) → ⊥
free_first (inl lengths) = lengths refl
free_first (inr (k, d)) = none_fixed 8 k d.bit d.there

free_beside : Apart (free 8 ∷ []) (fixed 8 1 ∷ []) → ⊥
free_beside (inl lengths) = lengths refl
free_beside (inr (k, d)) = none_fixed 8 k d.bit d.there

pub not_by_free_bits : NotByFreeBits
not_by_free_bits = (free_first, free_beside)
