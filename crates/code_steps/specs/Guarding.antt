-- Runs of parts that neither choose nor send nor set a timer.
use Rattle.std.specs.Prelude.{◌≡◌, ℕ, ◌+◌, ◌≤◌, ℤ, Bool, true, ◌++◌, List, [], length, take, slice_get, Some}
use Rattle.tap_exec.specs.declared.running.Outgoing.{Outgoing}
use Rattle.tap_exec.specs.declared.running.TimerState.{TimerState}
use Rattle.register_code.specs.declared.bad.Part.TheVariants as part
use Rattle.register_code.specs.declared.code.Code.{Code}
use Rattle.register_code.specs.declared.code.CodeAction.{CodeAction}
use Rattle.register_code.specs.declared.code.CodeKind.TheVariants as kind
use Rattle.register_code.specs.declared.code.CodeProcess.{CodeProcess}
use Rattle.register_code.specs.declared.instr.Instr.{Instr}
use Rattle.register_code.specs.Instructions.{Setting}
use Rattle.register_code.specs.Naming.{may_guard, written}
use Rattle.register_code.specs.Running.{Leads, guard_holds, step}
use Rattle.register_code.specs.Registers.{cell_ranges, input_ranges}
use Rattle.register_code.specs.Verified.{site_of}
use Rattle.tap_base.specs.Ranges.{AreAllIn}
use Rattle.sound_code.specs.Fitting.{FitsSite}
use Rattle.sound_code.specs.Promises.{IsPartOf}
use Rattle.code_steps.specs.Holding.{Held, moment}

-- The instructions are those of a local guard of verified code, and what is held fits.
pub record IsInGuard (instrs : List Instr) (h : Held) : Type 0 where
  pub code : Code
  pub number : ℕ
  pub process : CodeProcess
  pub action : CodeAction
  pub verified : IsPartOf code number process action
  pub local : action.kind ≡ kind.Local
  pub instrs_are : instrs ≡ action.guard
  pub timers : List TimerState
  pub fits : FitsSite (site_of code number process action part.Guard) (moment h timers [] [])

-- The next instruction leads from what was held to what is held, where nothing was received.
pub record StepsTo (instrs : List Instr) (before after : Held) : Type 0 where
  pub leads : (e : Setting) (timers : List TimerState) (sends : List Outgoing) (choices : List ℤ) → e.instrs ≡ instrs → e.received ≡ [] → step e (moment before timers sends choices) ≡ Some (moment after timers sends choices)
  pub registers_room : after.registers_room ≡ before.registers_room
  pub counters_room : after.counters_room ≡ before.counters_room

-- Some instructions lead from what was held to what is held, where nothing was received.
pub record ComesTo (instrs : List Instr) (before after : Held) : Type 0 where
  pub ran : ℕ
  pub leads : (e : Setting) (timers : List TimerState) (sends : List Outgoing) (choices : List ℤ) → e.instrs ≡ instrs → e.received ≡ [] → Leads e (moment before timers sends choices) ran (moment after timers sends choices)
  pub registers_room : after.registers_room ≡ before.registers_room
  pub counters_room : after.counters_room ≡ before.counters_room

-- A guard may have each instruction, and none writes a register before the k-th.
pub record WritesBehind (k : ℕ) (instrs : List Instr) : Type 0 where
  pub guards : (at : ℕ) (i : Instr) → slice_get instrs at ≡ Some i → may_guard i ≡ true
  pub behind : (at : ℕ) (i : Instr) (r : ℕ) → slice_get instrs at ≡ Some i → written i ≡ Some r → k ≤ r

-- Registers that no instruction writes hold what they held.
abbrev pub KeepsFirst : List Instr → Held → Held → Type 0
KeepsFirst instrs before after = (k : ℕ) → WritesBehind k instrs → take k after.registers ≡ take k before.registers

-- What is held begins with the cells and inputs of a process of verified code, and there is room for the guard of its
-- action.
pub record StartsGuard (action : CodeAction) (keep : ℕ) (h : Held) : Type 0 where
  pub code : Code
  pub number : ℕ
  pub process : CodeProcess
  pub verified : IsPartOf code number process action
  pub local : action.kind ≡ kind.Local
  pub cells : List ℤ
  pub inputs : List ℤ
  pub cells_fit : AreAllIn (cell_ranges process) cells
  pub inputs_fit : AreAllIn (input_ranges process) inputs
  pub first : take keep h.registers ≡ cells ++ inputs
  pub inside : keep ≤ length h.registers
  pub registers : keep + length action.temporaries ≤ h.registers_room
  pub counters : length action.guard ≤ h.counters_room

-- The truth is the value of the guard.
abbrev pub TellsGuard : CodeAction → ℕ → Held → Bool → Type 0
TellsGuard action keep h holds = (g : StartsGuard action keep h) → holds ≡ guard_holds g.code.messages g.process.timers action g.cells g.inputs
