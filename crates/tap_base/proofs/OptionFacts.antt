-- What a choice came from, where it gave a value.
use Rattle.std.proofs.Common.{◌≡◌, refl, Option, Some, None}
use Rattle.std.specs.Prelude.{IsSome, option_and_then}
use Rattle.std.specs.Option.{option_map}
use Rattle.std.proofs.lemmas.Option.{none-some, same_Some}

-- f of a value is y
pub mapped : {A B : Type 0} (f : A → B) (o : Option A) (y : B) → option_map f o ≡ Some y → (x : A) × (o ≡ Some x) × (f x ≡ y)
mapped f None y e = absurd (none-some y e)
mapped f (Some x) y e = (x, refl, same_Some (f x) y e)

-- f of a value gave y
pub bound : {A B : Type 0} (f : A → Option B) (o : Option A) (y : B) → option_and_then f o ≡ Some y → (x : A) × (o ≡ Some x) × (f x ≡ Some y)
bound f None y e = absurd (none-some y e)
bound f (Some x) y e = (x, refl, e)

-- the first of them, beside `option_and_then_some`
pub option_map_some : {A B P : Type 0} (f : A → B) (o : Option A) (y : B) → option_map f o ≡ Some y → ((x : A) → o ≡ Some x → f x ≡ y → P) → P
option_map_some f o y e k = let m = mapped f o y e in k m.0 m.1 m.2

-- ---- what follows is there

pub some_map : {A B : Type 0} (f : A → B) (o : Option A) → IsSome o → IsSome (option_map f o)
some_map f None h = absurd cc
some_map f (Some x) h = refl

pub then_some : {A B : Type 0} (f : A → Option B) (o : Option A) → IsSome o → ((x : A) → IsSome (f x)) → IsSome (option_and_then f o)
then_some f None h k = absurd cc
then_some f (Some x) h k = k x

pub both_some : {A B C : Type 0} (f : A → B → C) (a : Option A) (b : Option B) → IsSome a → IsSome b → IsSome (option_and_then (λ x. option_and_then (λ y. Some (f x y)) b) a)
both_some f None b h k = absurd cc
both_some f (Some x) None h k = absurd cc
both_some f (Some x) (Some y) h k = refl

pub three_some : {A B C D : Type 0} (f : A → B → C → D) (a : Option A) (b : Option B) (d : Option C) → IsSome a → IsSome b → IsSome d → IsSome (option_and_then (λ x. option_and_then (λ y. option_and_then (λ z. Some (f x y z)) d) b) a)
three_some f None b d h k l = absurd cc
three_some f (Some x) None d h k l = absurd cc
three_some f (Some x) (Some y) None h k l = absurd cc
three_some f (Some x) (Some y) (Some z) h k l = refl
