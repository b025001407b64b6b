-- What an instruction that sets a timer does.
use Rattle.std.specs.Prelude.{◌≡◌, ℕ, ◌^◌, ℤ, pos, true, ◌&&◌, int_le, int_lt, unsigned_abs, List, slice_get, Some}
use Rattle.tap_exec.specs.declared.running.Outgoing.{Outgoing}
use Rattle.timer_core.specs.Timing.{Timing}
use Rattle.register_code.specs.declared.instr.Instr.{Instr}
use Rattle.register_code.specs.Instructions.{Setting, does}
use Rattle.code_steps.specs.Holding.{Held, moment}

-- The instruction leads on, with these timers before and after; the time stays.
pub record SetsTimer (i : Instr) (before after : Held) (timers timers_after : Timing) : Type 0 where
  pub leads : (e : Setting) (sends : List Outgoing) (choices : List ℤ) → does e i (moment before timers.states sends choices) ≡ Some (moment after timers_after.states sends choices)
  pub time : timers_after.time ≡ timers.time
  pub registers_room : after.registers_room ≡ before.registers_room
  pub counters_room : after.counters_room ≡ before.counters_room

-- the delay that a register holds, in milliseconds
pub record IsDelay (h : Held) (a delay : ℕ) : Type 0 where
  pub x : ℤ
  pub holds : slice_get h.registers a ≡ Some x
  pub within : (int_le (pos 0) x && int_lt x (pos (2 ^ 32))) ≡ true
  pub is : delay ≡ unsigned_abs x
