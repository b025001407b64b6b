-- A part of a program runs one instruction after another.
use Rattle.std.specs.Prelude.{◌≡◌, ℕ, zero, suc, ◌<◌, ◌≤◌, ◌==◌, ℤ, pos, Bool, true, if◌then◌else◌, List, [], take, length, replicate, slice_get, Option, Some, None}
use Rattle.std.specs.Ordering.{int_eq}
use Rattle.tap_exec.specs.Running.{Running}
use Rattle.tap_exec.specs.declared.running.TimerState.TheVariants.{Off}
use Rattle.tap_base.specs.Option.{◌>>=◌, provided, is_yes}
use Rattle.register_code.specs.declared.code.CodeAction.{CodeAction}
use Rattle.register_code.specs.declared.code.CodeMessage.{CodeMessage}
use Rattle.register_code.specs.declared.code.CodeTemporary.{CodeTemporary}
use Rattle.register_code.specs.declared.instr.Instr.{Instr}
use Rattle.register_code.specs.Instructions.{Setting, Moment, does}
use Rattle.register_code.specs.Loops.{cost}
use Rattle.register_code.specs.Registers.{opening_registers}

-- ---- steps

-- the next instruction; none where there is none
abbrev pub step : Setting → Moment → Option Moment
step e s = slice_get e.instrs s.next >>= λ i. does e i s

-- so many instructions, one after another
abbrev pub after : Setting → ℕ → Moment → Option Moment
after e zero s = Some s
after e (suc n) s = step e s >>= after e n

-- A part has ended when the number of the next instruction is its length.
abbrev pub is_ended : Setting → Moment → Bool
is_ended e s = s.next == length e.instrs

-- n instructions lead from one moment to another
abbrev pub Leads : Setting → Moment → ℕ → Moment → Type 0
Leads e s n t = after e n s ≡ Some t

-- Some instructions lead to one that cannot be done with the choices that are left.
pub record Fails (e : Setting) (s : Moment) : Type 0 where
  pub ran : ℕ
  pub at : Moment
  pub leads : Leads e s ran at
  pub within : at.next < length e.instrs
  pub refused : step e at ≡ None

-- ---- a whole run

-- what a part leaves at its end, and the number of instructions that it ran
abbrev pub Run : Type 0
Run = Option (Moment × ℕ)

abbrev pub one_more : Run → Run
one_more run = run >>= λ r. Some (r.0, suc r.1)

-- the run to the end, where at most so many instructions lead there
abbrev pub run : Setting → ℕ → Moment → Run
run e zero s = provided (is_ended e s) (s, 0)
run e (suc n) s = if is_ended e s then Some (s, 0) else one_more (step e s >>= run e n)

-- n instructions at most lead from s to this end
pub record HasEnded (e : Setting) (n : ℕ) (s : Moment) (t : Moment) (m : ℕ) : Type 0 where
  pub leads : Leads e s m t
  pub ended : is_ended e t ≡ true
  pub few : m ≤ n

-- A run ends within n instructions, or it has no end since the choices fail.
abbrev pub EndsWithin : Setting → ℕ → Moment → Run → Type 0
EndsWithin e n s None = Fails e s
EndsWithin e n s (Some r) = HasEnded e n s r.0 r.1

-- ---- the parts of an action

-- where a part begins: at its first instruction, with every counter 0
abbrev pub opening : List ℤ → List CodeTemporary → List Instr → Running → Moment
opening inputs temporaries instrs r = record {
  next = 0;
  registers = opening_registers r.cells inputs temporaries;
  counters = replicate (length instrs) 0;
  timers = r.timers;
  sends = r.sends;
  choices = r.choices;
}

-- the first registers are the cells
abbrev pub left_by : ℕ → Moment → Running
left_by cells s = record { cells = take cells s.registers; timers = s.timers; sends = s.sends; choices = s.choices }

-- What the body of an action does with these inputs and received values, and the number of instructions that it runs.
-- A body that would run more instructions than its cost has no run; verified code has none such.
abbrev pub code_run : List CodeMessage → CodeAction → List ℤ → List ℤ → Running → Option (Running × ℕ)
code_run messages action inputs received r = do
  ended ← run (record { messages = messages; received = received; instrs = action.body }) (cost action.body) (opening inputs action.temporaries action.body r)
  Some (left_by (length r.cells) ended.0, ended.1)

-- what a guard begins with, of a process with so many timers
abbrev pub guard_running : ℕ → List ℤ → Running
guard_running timers cells = record { cells = cells; timers = replicate timers Off; sends = []; choices = [] }

-- whether the code of a local guard leaves 1 in its result
abbrev pub guard_holds : List CodeMessage → ℕ → CodeAction → List ℤ → List ℤ → Bool
guard_holds messages timers action cells inputs = is_yes (do
  ended ← run (record { messages = messages; received = []; instrs = action.guard }) (cost action.guard)
      (opening inputs action.temporaries action.guard (guard_running timers cells))
  x ← slice_get ended.0.registers action.result
  Some (int_eq x (pos 1)))
