-- What a world asks of a system.
use Rattle.std.specs.Prelude.{◌≤◌, ◌<◌, ◌^◌, length}
use Rattle.tap_base.specs.declared.system.System.{System}
use Rattle.tap_base.specs.Lists.{Each}
use Rattle.abstract_run.specs.Safe.{IsSafe}
use Rattle.exact_choice.specs.Acting.{CanDraw}

-- It keeps its ranges, and its choices can be drawn; each field has at most 63 bits, and actions are counted in 32 bits.
pub record IsRunnable (system : System) : Type 0 where
  pub safe : IsSafe system
  pub draws : CanDraw system
  pub narrow : Each (λ m. Each (λ f. f.width ≤ 63) m.fields) system.messages
  pub counted : Each (λ p. length p.actions < 2 ^ 32) system.processes
