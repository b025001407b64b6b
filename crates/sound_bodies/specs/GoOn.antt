-- Bodies come to their ends, by some choices.
use Rattle.std.specs.Prelude.{◌≡◌, ◌++◌, ℕ, ℤ, List, Option, Some, slice_get}
use Rattle.tap_base.specs.declared.system.System.{System}
use Rattle.tap_base.specs.Resolved.{IsResolved}
use Rattle.tap_exec.specs.Running.{Running}
use Rattle.abstract_run.specs.Safe.{IsBeginning}
use Rattle.tap_exec.specs.Semantics.{ActionSemantics, ProcessSemantics, semantics_of}
use Rattle.sound_bodies.specs.Judged.{IsJudgedSystem}

-- It comes to its end by some choices, and leaves whatever choices come behind them.
pub record GoesOn (body : Running → Option Running) (r : Running) : Type 0 where
  pub choices : List ℤ
  pub after : Running
  pub runs : (rest : List ℤ) → body (record r { choices = choices ++ rest }) ≡ Some (record after { choices = rest })

-- Each body of a resolved system that is judged right goes on so, whatever it fittingly begins with.
abbrev pub BodiesGoOn : Type 0
BodiesGoOn =
    (system : System) (p a : ℕ) (process : ProcessSemantics) (action : ActionSemantics) → IsResolved system → IsJudgedSystem system
    → slice_get (semantics_of system).processes p ≡ Some process → slice_get process.actions a ≡ Some action
    → (inputs received : List ℤ) (r : Running) → IsBeginning (semantics_of system) process action inputs received r → GoesOn (action.body inputs received) r
