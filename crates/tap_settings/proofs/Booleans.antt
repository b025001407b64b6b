-- A test that is not turned.
use Rattle.std.proofs.Common.{◌≡◌, Bool, true, false, not, refl}

pub not_false : (b : Bool) → not b ≡ false → b ≡ true
not_false true e = refl
not_false false e = absurd cc
