-- What a machine holds while a part runs.
use Rattle.std.specs.Prelude.{ℕ, ℤ, List}
use Rattle.tap_exec.specs.declared.running.Outgoing.{Outgoing}
use Rattle.tap_exec.specs.declared.running.TimerState.{TimerState}
use Rattle.register_code.specs.Instructions.{Moment}

-- the number of the next instruction, the registers, the counter of the loop that begins at each instruction, and for how
-- many registers and counters there is room
pub record Held : Type 0 where
  pub next : ℕ
  pub registers : List ℤ
  pub counters : List ℕ
  pub registers_room : ℕ
  pub counters_room : ℕ

-- the moment of the run, with these timers, sends and choices
abbrev pub moment : Held → List TimerState → List Outgoing → List ℤ → Moment
moment h timers sends choices = record { next = h.next; registers = h.registers; counters = h.counters; timers = timers; sends = sends; choices = choices }
