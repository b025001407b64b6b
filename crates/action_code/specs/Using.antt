-- What a part sends and chooses at most.
use Rattle.std.specs.Prelude.{◌≡◌, ℕ, List, length, slice_get, Option, Some, None}
use Rattle.register_code.specs.declared.code.CodeMessage.{CodeMessage}
use Rattle.register_code.specs.declared.instr.Instr.{Instr}
use Rattle.register_code.specs.declared.instr.Instr.TheVariants as instr
use Rattle.register_code.specs.Loops.{choices, sends, total}
use Rattle.action_code.specs.declared.uses.Uses.{Uses}

-- how many values an instruction sends: one for each field of its message
abbrev pub fields_in : Option CodeMessage → ℕ
fields_in None = 0
fields_in (Some m) = length m.fields

abbrev pub one_value : List CodeMessage → Instr → ℕ
one_value messages (instr.Send message first count to) = fields_in (slice_get messages message)
one_value messages _ = 0

-- the greatest number of values that a part sends
abbrev pub values : List CodeMessage → List Instr → ℕ
values messages instrs = total (one_value messages) instrs

-- These are the greatest numbers of a part.
pub record IsUse (messages : List CodeMessage) (instrs : List Instr) (uses : Uses) : Type 0 where
  pub sends : uses.sends ≡ sends instrs
  pub values : uses.values ≡ values messages instrs
  pub choices : uses.choices ≡ choices instrs
