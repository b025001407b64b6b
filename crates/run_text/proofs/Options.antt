-- What a value that may be none was made of.
use Rattle.std.proofs.Common.{◌≡◌, Option, Some, None, refl}
use Rattle.std.specs.Option.{option_map}
use Rattle.tap_base.specs.Option.{◌>>=◌}

-- f of a value gave y
pub record Given {A B : Type 0} (o : Option A) (f : A → Option B) (y : B) : Type 0 where
  pub x : A
  pub from : o ≡ Some x
  pub then_ : f x ≡ Some y

pub bound : {A B : Type 0} (o : Option A) (f : A → Option B) (y : B) → (o >>= f) ≡ Some y → Given o f y
bound None f y h = cc
bound (Some x) f y h = record { x = x; from = refl; then_ = h }

-- f of a value is y
pub record Mapped {A B : Type 0} (o : Option A) (f : A → B) (y : B) : Type 0 where
  pub x : A
  pub from : o ≡ Some x
  pub is : f x ≡ y

pub mapped : {A B : Type 0} (o : Option A) (f : A → B) (y : B) → option_map f o ≡ Some y → Mapped o f y
mapped None f y h = cc
mapped (Some x) f y h = record { x = x; from = refl; is = cc }

pub some_same : {A : Type 0} (o : Option A) (x y : A) → o ≡ Some x → o ≡ Some y → x ≡ y
some_same o x y h k = cc

pub unwrapped : {A : Type 0} (x y : A) → Some x ≡ Some y → y ≡ x
unwrapped x y e = cc
