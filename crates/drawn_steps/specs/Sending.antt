-- What an instruction that sends needs and does.
use Rattle.std.specs.Prelude.{◌≡◌, ℕ, ◌+◌, ◌<◌, ◌≤◌, ◌^◌, ℤ, List, [], ◌∷◌, ◌++◌, length, map, drop, slice_get, Option, Some}
use Rattle.tap_exec.specs.declared.running.Outgoing.{Outgoing}
use Rattle.tap_exec.specs.declared.running.TimerState.{TimerState}
use Rattle.tap_exec.specs.Filling.{field_value, filled}
use Rattle.register_code.specs.declared.code.CodeField.{CodeField}
use Rattle.register_code.specs.declared.code.CodeMessage.{CodeMessage}
use Rattle.register_code.specs.declared.instr.Instr.TheVariants as instr
use Rattle.register_code.specs.Fields.{code_field, code_message}
use Rattle.register_code.specs.Instructions.{Setting, does, run_of}
use Rattle.action_code.specs.Using.{fields_in}
use Rattle.code_steps.specs.Holding.{Held, moment}
use Rattle.drawn_steps.specs.Boxes.{Boxed}

-- ---- what a send needs

-- The message is declared, and the registers and its fixed values give the values of all its fields.
pub record CanSend (messages : List CodeMessage) (message first count : ℕ) (h : Held) : Type 0 where
  pub declared : CodeMessage
  pub there : slice_get messages message ≡ Some declared
  pub free : List ℤ
  pub run : run_of first count h.registers ≡ Some free
  pub values : List ℤ
  pub filled_is : filled (code_message declared) free ≡ Some values

-- There is room for one send more, with so many values.
pub record HasSendRoom (count : ℕ) (box : Boxed) : Type 0 where
  pub sends : length box.sent < box.sends_room
  pub values : length box.values + count ≤ box.values_room
  pub small : length box.values + count < 2 ^ 32

-- ---- what it does

-- The values of all fields stand behind those that were sent before.
pub record FillsAll (fields : List CodeField) (given : List ℤ) (box box_after : Boxed) : Type 0 where
  pub values : List ℤ
  pub filled_is : filled (map code_field fields) given ≡ Some values
  pub noted : box_after ≡ record box { values = box.values ++ values }

-- The value of one field stands behind those before it; of the given ones so many are used then.
pub record FillsOne (fixed : Option ℤ) (given : List ℤ) (used used_after : ℕ) (box box_after : Boxed) : Type 0 where
  pub value : ℤ
  pub taken : field_value fixed (drop used given) ≡ Some (value, drop used_after given)
  pub noted : box_after ≡ record box { values = box.values ++ value ∷ [] }
  pub few : used_after ≤ used + 1

-- The instruction leads on with one send more. The box has it, and its values behind all others.
pub record Sends (messages : List CodeMessage) (message first count to : ℕ) (before after : Held) (box box_after : Boxed) : Type 0 where
  pub values : List ℤ
  pub leads : (e : Setting) (timers : List TimerState) (sends : List Outgoing) (choices : List ℤ) → e.messages ≡ messages
      → does e (instr.Send message first count to) (moment before timers sends choices) ≡ Some (moment after timers (sends ++ record { to = to; message = message; values = values } ∷ []) choices)
  pub counted : length values ≡ fields_in (slice_get messages message)
  pub noted : box_after
      ≡ record box { sent = box.sent ++ record { to = to; message = message; first = length box.values; count = length values } ∷ []; values = box.values ++ values }
  pub held : after ≡ record before { next = before.next + 1 }
