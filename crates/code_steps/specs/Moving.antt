-- What an instruction needs of what is held, and what it does to it.
use Rattle.std.specs.Prelude.{◌≡◌, ℕ, ◌+◌, ◌<◌, ◌≤◌, ℤ, true, false, Bool, List, length, slice_get, Some}
use Rattle.tap_base.specs.declared.tree.Op.{Op}
use Rattle.tap_base.specs.declared.tree.Op.TheVariants as op
use Rattle.tap_base.specs.Interval.{IsIn, index_range}
use Rattle.tap_exec.specs.declared.running.Outgoing.{Outgoing}
use Rattle.tap_exec.specs.declared.running.TimerState.{TimerState}
use Rattle.register_code.specs.declared.instr.Instr.{Instr}
use Rattle.register_code.specs.declared.instr.Instr.TheVariants as instr
use Rattle.register_code.specs.Instructions.{Doing, Setting, does}
use Rattle.tap_exec.specs.Computed.{can_apply}
use Rattle.code_steps.specs.Holding.{Held, moment}

-- ---- what an instruction does

-- From what was held this leads to what is held now, whatever the timers, the sends and the choices are.
pub record MovesBy (act : Doing) (before after : Held) : Type 0 where
  pub leads : (timers : List TimerState) (sends : List Outgoing) (choices : List ℤ) → act (moment before timers sends choices) ≡ Some (moment after timers sends choices)
  pub registers_room : after.registers_room ≡ before.registers_room
  pub counters_room : after.counters_room ≡ before.counters_room

-- an instruction, where these values were received
abbrev pub Moves : List ℤ → Instr → Held → Held → Type 0
Moves received i before after = (e : Setting) → e.received ≡ received → MovesBy (does e i) before after

-- the instructions that neither choose nor send nor set a timer
abbrev pub is_plain : Instr → Bool
is_plain (instr.Choose r lo hi) = false
is_plain (instr.Select r first count) = false
is_plain (instr.Send message first count to) = false
is_plain (instr.Start timer a) = false
is_plain (instr.Stop timer) = false
is_plain _ = true

-- ---- what it needs

-- The two operands and the result are there, and the operation can be applied.
pub record CanCompute (o : Op) (r a b : ℕ) (h : Held) : Type 0 where
  pub result : r < length h.registers
  pub left : a < length h.registers
  pub right : b < length h.registers
  pub applies : (x y : ℤ) → slice_get h.registers a ≡ Some x → slice_get h.registers b ≡ Some y → can_apply o x y ≡ true

-- The index is within its run, and the run is there.
pub record CanIndex (base run index : ℕ) (h : Held) : Type 0 where
  pub index_there : index < length h.registers
  pub run_there : base + run ≤ length h.registers
  pub within : (i : ℤ) → slice_get h.registers index ≡ Some i → IsIn i (index_range run)

-- What an instruction names is there.
abbrev pub CanMove : List ℤ → Instr → Held → Type 0
CanMove received (instr.Const r imm) h = r < length h.registers
CanMove received (instr.Copy r a) h = (r < length h.registers) × (a < length h.registers)
CanMove received (instr.Add r a b) h = CanCompute op.Add r a b h
CanMove received (instr.Sub r a b) h = CanCompute op.Sub r a b h
CanMove received (instr.Mul r a b) h = CanCompute op.Mul r a b h
CanMove received (instr.Div r a b) h = CanCompute op.Div r a b h
CanMove received (instr.Mod r a b) h = CanCompute op.Mod r a b h
CanMove received (instr.Min r a b) h = CanCompute op.Min r a b h
CanMove received (instr.Max r a b) h = CanCompute op.Max r a b h
CanMove received (instr.Eq r a b) h = CanCompute op.Eq r a b h
CanMove received (instr.Ne r a b) h = CanCompute op.Ne r a b h
CanMove received (instr.Lt r a b) h = CanCompute op.Lt r a b h
CanMove received (instr.Le r a b) h = CanCompute op.Le r a b h
CanMove received (instr.Load r base run index) h = (r < length h.registers) × CanIndex base run index h
CanMove received (instr.Save base run index a) h = (a < length h.registers) × CanIndex base run index h
CanMove received (instr.Part r field) h = (r < length h.registers) × (field < length received)
CanMove received (instr.JumpNe a imm target) h = a < length h.registers
CanMove received (instr.Repeat count last) h = h.next < length h.counters
CanMove received (instr.Again first) h = first < length h.counters
CanMove received _ h = Unit {0}
