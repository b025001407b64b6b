-- What is answered of a part of a system, where memory is taken.
use Rattle.std.specs.Prelude.{◌≡◌, ◌≤◌, List, [], Some, Result, Ok, Err}
use Rattle.tap_base.specs.declared.refusal.Refusal.{Refusal}
use Rattle.tap_base.specs.declared.system.Action.{Action}
use Rattle.tap_base.specs.ListWords.{first}
use Rattle.width_check.specs.declared.fault.WidthFault.{WidthFault}
use Rattle.width_check.specs.declared.fault.WidthFault.TheVariants as fault
use Rattle.width_check.specs.Cost.{action_cost}

-- there is no offence, or this is the first; nothing is said where memory was refused
abbrev pub Finds : List Refusal → Result Unit WidthFault → Type 0
Finds offences (Ok _) = offences ≡ []
Finds offences (Err (fault.Refused r)) = first offences ≡ Some r
Finds offences (Err fault.NoMemory) = Unit {0}

-- an answer without want of memory
abbrev pub Passes : Result Unit Refusal → Result Unit WidthFault → Type 0
Passes (Ok _) result = result ≡ Ok tt
Passes (Err r) result = result ≡ Err (fault.Refused r)

-- the cost is one that is kept
abbrev pub IsCheap : Action → Type 0
IsCheap a = action_cost a ≤ 1000000
