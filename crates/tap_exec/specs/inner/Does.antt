-- What code says that runs statements in place.
use Rattle.std.specs.Prelude.{◌≡◌, Bool, true, false, Option, Some, None}
use Rattle.tap_exec.specs.declared.running.Running.{Running}

-- The code did what is expected, or found that it cannot be done.
abbrev pub Does : {C : Type 0} → Option (Running C) → Bool → Running C → Type 0
Does expected true new = expected ≡ Some new
Does expected false new = expected ≡ None

-- The same of a round, with whether an alternative ran.
abbrev pub DoesRound : {C : Type 0} → Option (Bool × Running C) → Option Bool → Running C → Type 0
DoesRound expected (Some ran) new = expected ≡ Some (ran, new)
DoesRound expected None new = expected ≡ None
