-- What code says that changes something in place.
use Rattle.std.specs.Prelude.{◌≡◌, Bool, true, false, List, [], Option, Some, None, Result, Ok, Err}
use Rattle.abstract_run.specs.declared.state.StepFault.{StepFault}
use Rattle.abstract_run.specs.declared.state.StepFault.TheVariants as fault

-- A change does what is expected, or is not possible and changes nothing.
abbrev pub Changes : {A : Type 0} → Option A → A → Bool → A → Type 0
Changes expected old true new = expected ≡ Some new
Changes expected old false new = (expected ≡ None) × (new ≡ old)

-- A change that takes memory: want of memory changes nothing either.
abbrev pub Tries : {A B : Type 0} → Option A → A → Result B StepFault → A → Type 0
Tries expected old (Ok done) new = expected ≡ Some new
Tries expected old (Err fault.NotEnabled) new = (expected ≡ None) × (new ≡ old)
Tries expected old (Err fault.NoMemory) new = new ≡ old

-- What was done, without an answer, is done and nothing was sent; what was not done stays so.
abbrev pub SendsNothing : {A B : Type 0} → Result B StepFault → Result (List A) StepFault → Type 0
SendsNothing (Ok done) result = result ≡ Ok []
SendsNothing (Err why) result = result ≡ Err why
