-- Code that can come to its end.
use Rattle.std.specs.Prelude.{◌≡◌, ℕ, ◌≤◌, ℤ, true, List, [], Some}
use Rattle.tap_base.specs.Ranges.{AreAllIn}
use Rattle.tap_exec.specs.Running.{Running}
use Rattle.register_code.specs.declared.bad.Part.{Part}
use Rattle.register_code.specs.declared.code.Code.{Code}
use Rattle.register_code.specs.declared.code.CodeAction.{CodeAction}
use Rattle.register_code.specs.declared.code.CodeProcess.{CodeProcess}
use Rattle.register_code.specs.Instructions.{Moment, Setting}
use Rattle.register_code.specs.Loops.{cost}
use Rattle.register_code.specs.Registers.{input_ranges}
use Rattle.register_code.specs.Running.{Leads, code_run, is_ended}
use Rattle.register_code.specs.Verified.{received_fields, site_of}
use Rattle.sound_code.specs.Fitting.{FitsSite, ReceivedFit}
use Rattle.sound_code.specs.Promises.{FitsRunning, IsPartOf, setting_of}

-- Some choices lead from a moment to the end of the part, and are all taken.
pub record CanEnd (e : Setting) (m : Moment) : Type 0 where
  pub choices : List ℤ
  pub ran : ℕ
  pub end : Moment
  pub leads : Leads e (record m { choices = choices }) ran end
  pub ended : is_ended e end ≡ true
  pub taken : end.choices ≡ []

-- Each part of verified code can end from each moment that fits.
abbrev pub CodeCanEnd : Type 0
CodeCanEnd =
    (code : Code) (p : ℕ) (process : CodeProcess) (action : CodeAction) (which : Part) (received : List ℤ) (m : Moment) → IsPartOf code p process action
    → ReceivedFit (received_fields code action) received → FitsSite (site_of code p process action which) m → CanEnd (setting_of code action which received) m

-- With some choices, which are all taken, the body has a run.
pub record BodyCanEnd (code : Code) (action : CodeAction) (inputs received : List ℤ) (r : Running) : Type 0 where
  pub choices : List ℤ
  pub left : Running
  pub ran : ℕ
  pub run : code_run code.messages action inputs received (record r { choices = choices }) ≡ Some (left, ran)
  pub taken : left.choices ≡ []
  pub few : ran ≤ cost action.body

-- From fitting values each body of verified code can end, within its cost.
abbrev pub BodiesCanEnd : Type 0
BodiesCanEnd =
    (code : Code) (p : ℕ) (process : CodeProcess) (action : CodeAction) (received inputs : List ℤ) (r : Running) → IsPartOf code p process action
    → ReceivedFit (received_fields code action) received → AreAllIn (input_ranges process) inputs → FitsRunning code p process r → BodyCanEnd code action inputs received r
