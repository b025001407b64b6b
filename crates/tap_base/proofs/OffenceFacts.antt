-- What is known of tests: where one gives no offence, and where two hold.
use Rattle.std.proofs.Common.{◌≡◌, ◌&&◌, Bool, true, false, not, [], Option, Some, None, refl}
use Rattle.std.specs.Prelude.{IsSome, is_none}
use Rattle.tap_base.specs.declared.place.Place.{Place}
use Rattle.tap_base.specs.declared.refusal.RefusalCode.{RefusalCode}
use Rattle.tap_base.specs.Offences.{where_}

pub unmet : (b : Bool) (code : RefusalCode) (p : Place) → where_ b code p ≡ [] → b ≡ false
unmet true code p h = absurd cc
unmet false code p h = refl

pub met : (b : Bool) (code : RefusalCode) (p : Place) → where_ (not b) code p ≡ [] → b ≡ true
met true code p h = refl
met false code p h = absurd cc

pub there : {A : Type 0} (o : Option A) (code : RefusalCode) (p : Place) → where_ (is_none o) code p ≡ [] → IsSome o
there None code p h = absurd cc
there (Some x) code p h = refl

pub both_true : (a b : Bool) → (a && b) ≡ true → (a ≡ true) × (b ≡ true)
both_true true b h = (refl, h)
both_true false b h = absurd cc
