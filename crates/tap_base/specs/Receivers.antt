-- Who receives what from whom.
use Rattle.std.specs.Prelude.{◌≡◌, ℕ, Some, slice_get}
use Rattle.tap_base.specs.declared.system.Action.{Action}
use Rattle.tap_base.specs.declared.system.Guard.TheVariants as guard
use Rattle.tap_base.specs.declared.system.Process.{Process}
use Rattle.tap_base.specs.declared.system.System.{System}

-- p has an action that receives m from q
pub record HasReceiver (s : System) (p m q : ℕ) : Type 0 where
  pub process : Process
  pub there : slice_get s.processes p ≡ Some process
  pub number : ℕ
  pub action : Action
  pub is : slice_get process.actions number ≡ Some action
  pub guard : action.guard ≡ guard.Receive m q
