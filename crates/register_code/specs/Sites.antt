-- Where an instruction stands.
use Rattle.std.specs.Prelude.{ℕ, Bool, true, ◌&&◌, int_le, List, Option, Some, None}
use Rattle.tap_base.specs.declared.place.Range.{Range}
use Rattle.tap_base.specs.Option.{◌>>=◌, is_yes}
use Rattle.register_code.specs.declared.bad.Part.{Part}
use Rattle.register_code.specs.declared.code.CodeField.{CodeField}
use Rattle.register_code.specs.declared.code.CodeMessage.{CodeMessage}
use Rattle.register_code.specs.declared.code.CodeProcess.{CodeProcess}
use Rattle.register_code.specs.declared.instr.Instr.{Instr}

-- where an instruction stands
pub record Site : Type 0 where
  pub messages : List CodeMessage
  pub processes : List CodeProcess
  -- the process by number, its numbers of cells and inputs, and the ranges of all registers
  pub process : ℕ
  pub cells : ℕ
  pub inputs : ℕ
  pub timers : ℕ
  pub ranges : List Range
  -- the fields of the message that the action receives
  pub received : Option (List CodeField)
  pub part : Part
  pub instrs : List Instr

-- one range lies within another
abbrev pub lies_in : Range → Range → Bool
lies_in a b = int_le b.lo a.lo && int_le a.hi b.hi

-- the test holds of what is there; what is not there breaks another rule
abbrev pub holds_of : {A : Type 0} → Option A → (A → Bool) → Bool
holds_of None test = true
holds_of (Some x) test = test x

-- the two ranges are there, and the first lies within the second
abbrev pub both_in : Option Range → Option Range → Bool
both_in a b = is_yes (a >>= λ x. b >>= λ y. Some (lies_in x y))
