-- Which choices lead the body of an action to its end, and which of them a word takes.
use Rattle.std.specs.Prelude.{◌≡◌, ℕ, ◌<◌, ℤ, List, [], ◌∷◌, ◌++◌, length, Some, is_some}
use Rattle.tap_base.specs.Option.{◌>>=◌, provided}
use Rattle.tap_exec.specs.Running.{Running}
use Rattle.tap_exec.specs.Execution.{is_empty}
use Rattle.register_code.specs.declared.bad.Part.TheVariants as part
use Rattle.register_code.specs.declared.code.Code.{Code}
use Rattle.register_code.specs.declared.code.CodeAction.{CodeAction}
use Rattle.register_code.specs.declared.code.CodeMessage.{CodeMessage}
use Rattle.register_code.specs.declared.code.CodeProcess.{CodeProcess}
use Rattle.register_code.specs.Instructions.{Moment, chooses}
use Rattle.register_code.specs.Running.{Leads, code_run, step}
use Rattle.register_code.specs.Verified.{received_fields, site_of}
use Rattle.sound_code.specs.Fitting.{FitsSite, ReceivedFit}
use Rattle.sound_code.specs.Promises.{IsPartOf, opening_of, setting_of}
use Rattle.drawn_choices.specs.Draws.{AreDrawn, AreRising, Leading, option_drawn}

-- whether choices lead the body of an action from here to its end, and are all taken
abbrev pub leads_code : List CodeMessage → CodeAction → List ℤ → List ℤ → Running → Leading
leads_code messages action inputs received r choices =
    is_some (code_run messages action inputs received (record r { choices = choices }) >>= λ ended. provided (is_empty ended.0.choices) ended)

-- A run of a body of verified code that has come to a moment, with whatever choices are put behind those taken so far.
pub record HasCome (code : Code) (p : ℕ) (process : CodeProcess) (action : CodeAction) (received inputs : List ℤ) (r : Running) (taken : List ℤ) (ran : ℕ) (m : Moment) : Type 0 where
  pub verified : IsPartOf code p process action
  pub heard : ReceivedFit (received_fields code action) received
  pub leads : (more : List ℤ) → Leads (setting_of code action part.Body received) (opening_of action part.Body inputs (record r { choices = taken ++ more })) ran (record m { choices = more })
  pub fits : FitsSite (site_of code p process action part.Body) (record m { choices = [] })

-- A moment at which the next choice is one of these options, and goes into a register.
pub record Chooses (code : Code) (action : CodeAction) (received : List ℤ) (m : Moment) (register : ℕ) (options : List ℤ) : Type 0 where
  pub rising : AreRising options
  pub inside : m.next < length action.body
  pub asks : (more : List ℤ) → step (setting_of code action part.Body received) (record m { choices = more }) ≡ chooses register options (record m { choices = more })

-- What a word takes of the options of a choice that a run has come to is a draw of the body, whatever the choices before.
abbrev pub ChoicesAreDraws : Type 0
ChoicesAreDraws =
    (code : Code) (p : ℕ) (process : CodeProcess) (action : CodeAction) (received inputs : List ℤ) (r : Running) (taken : List ℤ) (ran : ℕ) (m : Moment) (register : ℕ) (options : List ℤ) (words : ℕ → ℕ) (x : ℤ)
    → HasCome code p process action received inputs r taken ran m → Chooses code action received m register options
    → AreDrawn (leads_code code.messages action inputs received r) words 0 taken → option_drawn options (words (length taken)) ≡ Some x
    → AreDrawn (leads_code code.messages action inputs received r) words 0 (taken ++ x ∷ [])
