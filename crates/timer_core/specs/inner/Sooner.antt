-- The least due time so far.
use Rattle.std.specs.Prelude.{ℕ, min, Option, Some, None}
use Rattle.tap_exec.specs.declared.running.TimerState.{TimerState}
use Rattle.tap_exec.specs.declared.running.TimerState.TheVariants.{Due}

-- the lesser of a time that is known and that of a timer which is due
abbrev pub sooner : Option ℕ → TimerState → Option ℕ
sooner None (Due at) = Some at
sooner (Some known) (Due at) = Some (min known at)
sooner least _ = least
