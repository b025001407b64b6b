-- An action of a process, with inputs and timers as the process has them, and with what it receives.
use Rattle.std.specs.Prelude.{◌≡◌, ℕ, ℤ, List}
use Rattle.tap_base.specs.Interval.{IsIn, field_range, from_to}
use Rattle.tap_base.specs.Ranges.{AreAllIn}
use Rattle.register_code.specs.declared.code.Code.{Code}
use Rattle.register_code.specs.declared.code.CodeField.{CodeField}
use Rattle.register_code.specs.declared.code.CodeInput.{CodeInput}
use Rattle.register_code.specs.Fields.{code_field}
use Rattle.register_code.specs.Registers.{input_ranges}
use Rattle.register_code.specs.Verified.{received_fields}
use Rattle.sound_code.specs.Fitting.{ReceivedFit}
use Rattle.action_machine.specs.Machines.{HasAction}

pub record Suits (code : Code) (process action : ℕ) (inputs : List ℤ) (timers : ℕ) (received : List ℤ) : Type 0 where
  pub has : HasAction code process action
  pub inputs_fit : AreAllIn (input_ranges has.of_process) inputs
  pub timers_are : has.of_process.timers ≡ timers
  pub heard : ReceivedFit (received_fields code has.action) received

-- the value is within the range of the input, or of the field
abbrev pub IsInInput : CodeInput → ℤ → Type 0
IsInInput i x = IsIn x (from_to i.lo i.hi)

abbrev pub IsInField : CodeField → ℤ → Type 0
IsInField f x = IsIn x (field_range (code_field f))
