-- What is answered of a part of a tree.
use Rattle.std.specs.Prelude.{◌≡◌, List, [], Option, Some, Result, Ok, Err}
use Rattle.tap_base.specs.declared.refusal.Refusal.{Refusal}
use Rattle.tap_base.specs.ListWords.{first}
use Rattle.tap_names.specs.declared.fault.TypeFault.{TypeFault}
use Rattle.tap_names.specs.declared.fault.TypeFault.TheVariants as fault

-- why a part of a tree is not taken: its first offence, or want of memory
abbrev pub Faults : List Refusal → TypeFault → Type 0
Faults offences (fault.Refused r) = first offences ≡ Some r
Faults offences fault.NoMemory = Unit {0}

-- What is answered of a part of a tree, by its offences in text order and by what it names: what it names, where it has no
-- offence; else the first one.
abbrev pub Judges : {A : Type 0} → List Refusal → Option A → Result A TypeFault → Type 0
Judges offences named (Ok x) = (offences ≡ []) × (named ≡ Some x)
Judges offences named (Err e) = Faults offences e
