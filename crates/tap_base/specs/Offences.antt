-- Offences: a code and the place where it stands, as lists of which the first is answered.
use Rattle.std.specs.Prelude.{◌≡◌, Bool, if◌then◌else◌, List, [], ◌∷◌, Option, Some, Result, Ok, Err}
use Rattle.tap_base.specs.declared.place.Place.{Place}
use Rattle.tap_base.specs.declared.refusal.Refusal.{Refusal}
use Rattle.tap_base.specs.declared.refusal.RefusalCode.{RefusalCode}
use Rattle.tap_base.specs.ListWords.{first}

-- one offence
abbrev pub offence : RefusalCode → Place → List Refusal
offence code place = record { code = code; place = place } ∷ []

-- one offence, where the test holds
abbrev pub where_ : Bool → RefusalCode → Place → List Refusal
where_ b code place = if b then offence code place else []

-- What is answered of a part of a tree, where no memory is taken, by its offences in text order and by what it names: what
-- it names, where it has no offence; else the first one.
abbrev pub Settles : {A : Type 0} → List Refusal → Option A → Result A Refusal → Type 0
Settles offences named (Ok x) = (offences ≡ []) × (named ≡ Some x)
Settles offences named (Err r) = first offences ≡ Some r

-- the same of what names nothing
abbrev pub Clears : {A : Type 0} → List Refusal → Result A Refusal → Type 0
Clears offences (Ok x) = offences ≡ []
Clears offences (Err r) = first offences ≡ Some r
