-- What the walk answers of an expression: its interval, or the first offence in it.
use Rattle.std.specs.Prelude.{◌≡◌, List, [], Option, Some, Result, Ok, Err}
use Rattle.tap_base.specs.declared.place.Range.{Range}
use Rattle.tap_base.specs.declared.refusal.Refusal.{Refusal}
use Rattle.tap_base.specs.ListWords.{first}
use Rattle.width_check.specs.ExprOffences.{Judged}

-- this interval, where there is no offence, or the first one
abbrev pub Bounds : List Refusal → Option Range → Result (Option Range) Refusal → Type 0
Bounds offences interval (Ok a) = (offences ≡ []) × (a ≡ interval)
Bounds offences interval (Err r) = first offences ≡ Some r

abbrev pub Judges : Judged → Result (Option Range) Refusal → Type 0
Judges j result = Bounds j.offences j.interval result
