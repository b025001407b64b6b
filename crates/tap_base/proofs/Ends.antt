-- The ends of an interval, as they are computed one after the other.
use Rattle.std.proofs.Common.{◌≡◌, ℤ, pos, ◌<ℤ◌, ◌≤ℤ◌, ◌∙◌, ap, sym, Option, arith}
use Rattle.std.specs.Prelude.{negsuc}
use Rattle.std.specs.Int.{int_div_euclid}
use Rattle.std.proofs.Math.Nat.{div-zero}
use Rattle.std.proofs.lemmas.Int.{ints}
use Rattle.tap_base.specs.declared.place.Range.{Range}
use Rattle.tap_base.specs.Interval.{bounded, spanned}

pub ends_are : (lo hi l h : ℤ) (r : Option Range) → r ≡ bounded lo hi → lo ≡ l → hi ≡ h → r ≡ bounded l h
ends_are lo hi l h r e f g = e ∙ ap (λ x. bounded x hi) f ∙ ap (λ x. bounded l x) g

pub corners_are : (w x y z a b c d : ℤ) (r : Option Range) → r ≡ spanned w x y z → w ≡ a → x ≡ b → y ≡ c → z ≡ d → r ≡ spanned a b c d
corners_are w x y z a b c d r e f g h k = e ∙ ap (λ v. spanned v x y z) f ∙ ap (λ v. spanned a v y z) g ∙ ap (λ v. spanned a b v z) h ∙ ap (λ v. spanned a b c v) k

-- ---- quotients of a divisor that is 0

pub below_none : (x : ℤ) → x <ℤ pos 0 → negsuc 0 ≡ int_div_euclid x (pos 0)
below_none (pos a) h = absurd (omega (arith, ints))
below_none (negsuc a) h = ap negsuc (sym (div-zero a))

pub above_none : (x : ℤ) → pos 0 ≤ℤ x → pos 0 ≡ int_div_euclid x (pos 0)
above_none (pos a) h = ap pos (sym (div-zero a))
above_none (negsuc a) h = absurd (omega (arith, ints))
